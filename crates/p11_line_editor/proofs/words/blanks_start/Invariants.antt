use Rattle.std.proofs.Common.{◌≡◌, ◌≤◌, not}
use Rattle.p11_line_editor.specs.Line.{is_blank, behind_last}
use Rattle.p11_line_editor.proofs.words.blanks_start.Given as goal

abbrev pub invariant-loop-at : goal.invariant-loop-at
invariant-loop-at l =
    (behind_last (λ byte. not (is_blank byte)) l.text l.at ≡ behind_last (λ byte. not (is_blank byte)) l.text l.place) × (l.at ≤ l.place)

abbrev pub decreases-loop-at : goal.decreases-loop-at
decreases-loop-at l = l.at
