use Rattle.std.proofs.Common.{arith, ℕ, ◌∙◌, ◌≡◌, ◌-◌, ◌*◌, length, min, ap}
use Rattle.std.proofs.lemmas.List.{length-drop, take_rest}
use Rattle.p11_overlay.specs.Geometry.{image_bytes}
use Rattle.p11_overlay.specs.Drive.{filled}
use Rattle.p11_overlay.proofs.Sectors.{cut_and_zeros}
use Rattle.p11_overlay.proofs.drive.sector_at.Goals as goal

pub returns : goal.returns
unfolding filled
returns c =
    let start : c.min-start.result ≡ min (c.args.n * 512) (length c.args.image.now) =
    c.min-start.ensures in
    let len : c.min-len.result ≡ min (length c.args.image.now - c.min-start.result) 512 =
    c.min-len.ensures ∙ ap (λ (rest : ℕ). min rest 512) (ap length (take_rest c.args.image.now c.min-start.result) ∙ length-drop c.min-start.result c.args.image.now) in
    c.with_zeros.ensures ∙ cut_and_zeros c.args.image.now (c.args.n * 512) 512 (image_bytes - length c.args.image.now) c.min-start.result c.min-len.result start len (omega (arith, c.requires.within, c.requires.fits))
