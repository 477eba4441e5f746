-- What is left of the tape lies behind blocks, whose data have been counted, and begins with no zero.
use Rattle.std.proofs.Common.{◌≡◌, ◌≤◌, ◌+◌, length, List, ℕ}
use Rattle.p11_tape.specs.Calls.Begins.{NoZeroFirst}
use Rattle.p11_tape.proofs.ReadLemmas.{HasRead}
use Rattle.p11_tape.proofs.tape.check.Given as goal

abbrev pub invariant-loop-rest : goal.invariant-loop-rest
invariant-loop-rest l = ((placed : List (ℕ × ℕ)) × HasRead l.tape l.rest placed × (length placed ≡ l.count)) × NoZeroFirst l.rest × (l.count + length l.rest ≤ length l.tape)

abbrev pub decreases-loop-rest : goal.decreases-loop-rest
decreases-loop-rest l = length l.rest
