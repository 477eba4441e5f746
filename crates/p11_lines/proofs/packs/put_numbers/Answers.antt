use Rattle.std.proofs.Common.{ℕ, ◌∷◌}
use Rattle.std.specs.Fmt.{decimal}
use Rattle.p11_lines.proofs.Pieces.{piece_put, piece_broken, flat_map_drop}
use Rattle.p11_lines.proofs.packs.put_numbers.Goals as goal

pub returns-in_err-put_number : goal.returns-in_err-put_number
returns-in_err-put_number g c =
    piece_broken _ c.from_residual.ensures.0 c.loop-number.invariant (flat_map_drop (λ (number : ℕ). 32 ∷ decimal number) c.args.numbers.now c.loop-number.number-index 0 c.loop-number-test.true) c.in_err-put_number.ensures

pub loop-number-preserved : goal.loop-number-preserved
loop-number-preserved g c =
    piece_put _ c.loop-number.invariant (flat_map_drop (λ (number : ℕ). 32 ∷ decimal number) c.args.numbers.now c.loop-number.number-index 0 c.loop-number-test.true) c.in_ok-put_number.ensures
