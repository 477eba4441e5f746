use Rattle.std.proofs.Common.{arith, length, ap, ◌≡◌, ◌<◌, ◌*◌, ◌∙◌, refl}
use Rattle.std.specs.List.{concat}
use Rattle.std.proofs.lemmas.List.{take_all}
use Rattle.p11_overlay.specs.Kept.Prepared.{IsWhole}
use Rattle.p11_overlay.specs.Drive.{image_of}
use Rattle.p11_overlay.proofs.Keeping.{whole_kept}
use Rattle.p11_overlay.proofs.Sectors.{concat-take_more, length-concat, sectors_of-concat}
use Rattle.p11_overlay.proofs.drive.Drive.image.Goals as goal

pub loop-n-preserved : goal.loop-n-preserved
loop-n-preserved g c =
    let within : c.loop-n.n < length c.args.self.now.contents.sectors = omega (arith, c.sector.ensures.whole.count, c.loop-n-test.true) in
    c.in_ok-extend_from_slice.ensures.items ∙ rw (concat-take_more c.args.self.now.contents.sectors c.loop-n.n within, c.loop-n.invariant, c.sector.ensures.bytes) refl

pub returns-clause-bytes : goal.returns-clause-bytes
returns-clause-bytes g c =
    let whole : IsWhole c.args.self.now.contents = rw (← c.self.view_is) (whole_kept _ _ _ c.self.inside.is_protected _ _ c.self.invariant) in
    c.loop-n.invariant ∙ ap concat (take_all c.loop-n.n c.args.self.now.contents.sectors (omega (arith, whole.count)))

pub returns-clause-len : goal.returns-clause-len
returns-clause-len g c =
    let whole : IsWhole c.args.self.now.contents = rw (← c.self.view_is) (whole_kept _ _ _ c.self.inside.is_protected _ _ c.self.invariant) in
    let all : length (image_of c.args.self.now.contents) ≡ length c.args.self.now.contents.sectors * 512 = length-concat c.args.self.now.contents.sectors 512 whole.bytes in
    let copied : c.loop-n.image.items ≡ image_of c.args.self.now.contents =
    c.loop-n.invariant ∙ ap concat (take_all c.loop-n.n c.args.self.now.contents.sectors (omega (arith, whole.count))) in
    omega (arith, all, ap length copied, whole.count)

pub returns-clause-again : goal.returns-clause-again
returns-clause-again g c =
    let whole : IsWhole c.args.self.now.contents = rw (← c.self.view_is) (whole_kept _ _ _ c.self.inside.is_protected _ _ c.self.invariant) in
    let copied : c.loop-n.image.items ≡ image_of c.args.self.now.contents =
    c.loop-n.invariant ∙ ap concat (take_all c.loop-n.n c.args.self.now.contents.sectors (omega (arith, whole.count))) in
    rw copied (sectors_of-concat c.args.self.now.contents.sectors whole.count whole.bytes)
