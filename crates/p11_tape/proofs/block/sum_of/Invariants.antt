use Rattle.std.proofs.Common.{◌≡◌, ◌%◌, take, sum}
use Rattle.p11_tape.proofs.block.sum_of.Given as goal

abbrev pub invariant-loop-byte : goal.invariant-loop-byte
invariant-loop-byte l = l.total ≡ sum (take l.byte-index l.bytes) % 256
