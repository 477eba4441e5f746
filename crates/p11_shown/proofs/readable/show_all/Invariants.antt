use Rattle.std.proofs.Common.{◌≡◌, ◌++◌, length}
use Rattle.p11_shown.specs.Screen.{all_readable}
use Rattle.p11_shown.proofs.readable.show_all.Given as goal

abbrev pub invariant-loop-rest : goal.invariant-loop-rest
invariant-loop-rest g l = l.out.items ++ all_readable l.rest ≡ l.initial.out.items ++ all_readable l.bytes

abbrev pub decreases-loop-rest : goal.decreases-loop-rest
decreases-loop-rest g l = length l.rest
