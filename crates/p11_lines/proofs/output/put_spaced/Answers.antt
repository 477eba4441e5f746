use Rattle.std.proofs.Common.{ℕ, ◌∷◌}
use Rattle.p11_lines.specs.AnswerText.{six_octals}
use Rattle.p11_lines.proofs.Pieces.{Wrote-none, piece_put, piece_broken, pieces_put, flat_map_drop, flat_map_past}
use Rattle.p11_lines.proofs.output.put_spaced.Goals as goal

pub loop-word-init : goal.loop-word-init
loop-word-init g c = Wrote-none _ _

pub returns-in_err-put_octal : goal.returns-in_err-put_octal
returns-in_err-put_octal g c =
    piece_broken _ c.from_residual.ensures.0 c.loop-word.invariant (flat_map_drop (λ (word : ℕ). 32 ∷ six_octals word) c.args.words.now c.loop-word.word-index 0 c.loop-word-test.true) c.in_err-put_octal.ensures

pub loop-word-preserved : goal.loop-word-preserved
loop-word-preserved g c =
    piece_put _ c.loop-word.invariant (flat_map_drop (λ (word : ℕ). 32 ∷ six_octals word) c.args.words.now c.loop-word.word-index 0 c.loop-word-test.true) c.in_ok-put_octal.ensures

pub returns : goal.returns
returns g c = pieces_put c.loop-word.invariant (flat_map_past (λ (word : ℕ). 32 ∷ six_octals word) _ _ c.loop-word-test.false)
