use Rattle.std.proofs.Common.{◌≡◌, ◌++◌, length}
use Rattle.p11_handles.specs.Typed.{typed_in}
use Rattle.p11_handles.proofs.typed.typed_bytes.Given as goal

abbrev pub invariant-loop-line : goal.invariant-loop-line
invariant-loop-line l = l.typed.items ++ typed_in l.rest ≡ typed_in l.text

abbrev pub decreases-loop-line : goal.decreases-loop-line
decreases-loop-line l = length l.rest
