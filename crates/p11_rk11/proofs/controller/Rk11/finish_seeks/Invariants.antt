use Rattle.std.proofs.Common.{◌≡◌}
use Rattle.p11_rk11.specs.Acts.{disk_after_seeks}
use Rattle.p11_rk11.proofs.controller.Rk11.finish_seeks.Given as goal

abbrev pub invariant-loop-n : goal.invariant-loop-n
invariant-loop-n g l = l.self.state ≡ disk_after_seeks l.turn l.n l.initial.self.state
