use Rattle.std.proofs.Common.{◌≡◌, length}
use Rattle.p11_line_editor.specs.History.{contains}
use Rattle.p11_line_editor.proofs.finding.contains.Given as goal

abbrev pub invariant-loop-rest : goal.invariant-loop-rest
invariant-loop-rest l = contains l.part l.rest ≡ contains l.part l.text

abbrev pub decreases-loop-rest : goal.decreases-loop-rest
decreases-loop-rest l = length l.rest
