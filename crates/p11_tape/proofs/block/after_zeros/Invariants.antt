use Rattle.std.proofs.Common.{length, ◌≤◌}
use Rattle.p11_tape.proofs.ZeroLemmas.{IsBehindZeros}
use Rattle.p11_tape.proofs.block.after_zeros.Given as goal

abbrev pub invariant-loop-rest : goal.invariant-loop-rest
invariant-loop-rest l = IsBehindZeros l.fn.bytes l.rest × (length l.rest ≤ length l.fn.bytes)

abbrev pub decreases-loop-rest : goal.decreases-loop-rest
decreases-loop-rest l = length l.rest
