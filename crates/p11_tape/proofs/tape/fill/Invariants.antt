-- What has been placed is the data of the blocks that have been read; what is left begins with no zero.
use Rattle.std.proofs.Common.{length}
use Rattle.p11_tape.specs.Calls.Begins.{NoZeroFirst}
use Rattle.p11_tape.proofs.ReadLemmas.{HasRead}
use Rattle.p11_tape.proofs.tape.fill.Given as goal

abbrev pub invariant-loop-rest : goal.invariant-loop-rest
invariant-loop-rest g l = HasRead l.tape l.rest l.placed.items × NoZeroFirst l.rest

abbrev pub decreases-loop-rest : goal.decreases-loop-rest
decreases-loop-rest g l = length l.rest
