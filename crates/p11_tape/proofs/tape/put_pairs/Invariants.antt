-- The first places have their pairs.
use Rattle.std.proofs.Common.{◌≡◌, length, take}
use Rattle.std.specs.List.{enumerate_from}
use Rattle.p11_tape.proofs.tape.put_pairs.Given as goal

abbrev pub invariant-loop-i : goal.invariant-loop-i
invariant-loop-i l =
    record {
      room : length l.places ≡ length l.bytes;
      put : take l.i l.places ≡ enumerate_from l.address (take l.i l.bytes);
    }
