use Rattle.std.proofs.Common.{◌≡◌}
use Rattle.p11_line_editor.specs.History.{found_from}
use Rattle.p11_line_editor.proofs.finding.found_from.Given as goal

abbrev pub invariant-loop-index : goal.invariant-loop-index
invariant-loop-index g l = found_from l.part l.index l.history ≡ found_from l.part l.back l.history
