use Rattle.std.proofs.Common.{◌≡◌}
use Rattle.p11_rk11.specs.Calls.Due.{due_among}
use Rattle.p11_rk11.proofs.controller.Rk11.due.Given as goal

abbrev pub invariant-loop-n : goal.invariant-loop-n
invariant-loop-n g l = l.due ≡ due_among l.n l.self.state
