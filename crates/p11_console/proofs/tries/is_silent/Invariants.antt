use Rattle.std.proofs.Common.{◌≡◌, length}
use Rattle.p11_panel.specs.Session.{is_silent}
use Rattle.p11_console.proofs.tries.is_silent.Given as goal

abbrev pub invariant-loop-rest : goal.invariant-loop-rest
invariant-loop-rest l = is_silent l.rest ≡ is_silent l.fn.line

abbrev pub decreases-loop-rest : goal.decreases-loop-rest
decreases-loop-rest l = length l.rest
