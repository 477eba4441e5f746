-- The processor status word: bits 15:14 current mode, 13:12 previous mode, 7:5 priority, 4 T, 3 N, 2 Z, 1 V, 0 C.
-- Bits 11:8 are unused and read as 0.
use Rattle.std.specs.Prelude.{ℕ, ◌+◌, ◌*◌, ◌/◌, ◌%◌}
use Rattle.p11_psw.specs.declared.psw.Psw.{Psw}
use Rattle.p11_psw.specs.Fields.{mode_number, mode_at, priority_number, priority_at}
use Rattle.p11_words.specs.Bits.{flag, bit_of}

-- the word of a status: each field at the weight of its lowest bit
unfoldable pub status_word : Psw → ℕ
status_word p =
    mode_number p.current * 0o40000 + mode_number p.previous * 0o10000 + priority_number p.priority * 0o40
    + flag p.trace 0o20 + flag p.n 0o10 + flag p.z 0o4 + flag p.v 0o2 + flag p.c 0o1

-- the status that a word says: each field is the number at its bits
unfoldable pub status_of : ℕ → Psw
status_of word =
    record {
      current = mode_at (word / 0o40000 % 4);
      previous = mode_at (word / 0o10000 % 4);
      priority = priority_at (word / 0o40 % 8);
      trace = bit_of word 0o20;
      n = bit_of word 0o10;
      z = bit_of word 0o4;
      v = bit_of word 0o2;
      c = bit_of word 0o1;
    }

-- a new machine's status: kernel mode, priority 0, no trace, no codes
unfoldable pub new_status : Psw
new_status = status_of 0
