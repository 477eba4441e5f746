use Rattle.std.proofs.Common.{◌≡◌, ◌++◌, length}
use Rattle.p11_handles.specs.Typed.{written_in}
use Rattle.p11_handles.proofs.typed.put_written.Given as goal

abbrev pub invariant-loop-rest : goal.invariant-loop-rest
invariant-loop-rest l = l.typed.items ++ written_in l.rest ≡ l.fn.typed.items ++ written_in l.text

abbrev pub decreases-loop-rest : goal.decreases-loop-rest
decreases-loop-rest l = length l.rest
