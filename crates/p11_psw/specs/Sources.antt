-- Where a new status comes from: a vector, RTI or RTT, and a write to the status word's bus address.
use Rattle.std.specs.Prelude.{ℕ}
use Rattle.p11_psw.specs.declared.mode.Mode.{Mode}
use Rattle.p11_psw.specs.declared.mode.Mode.TheVariants.{Kernel}
use Rattle.p11_psw.specs.declared.psw.Psw.{Psw}
use Rattle.p11_psw.specs.Fields.{joined_mode}
use Rattle.p11_psw.specs.Status.{status_of}

-- A trap or an interrupt takes the new status from the second word of its vector. Its previous mode is the mode in
-- which the processor was, whatever the word says.
unfoldable pub status_from_vector : Psw → ℕ → Psw
status_from_vector before word = record (status_of word) { previous = before.current }

-- in kernel mode the first, else the second
abbrev pub by_privilege : Mode → Psw → Psw → Psw
by_privilege Kernel p q = p
by_privilege _ p q = q

-- RTI and RTT in kernel mode take the popped word as it is. In another mode they can't give up a mode bit that is set,
-- and they leave the priority.
unfoldable pub status_from_return : Psw → ℕ → Psw
status_from_return before word =
    by_privilege before.current
    (status_of word)
    (record (status_of word) {
      current = joined_mode (status_of word).current before.current;
      previous = joined_mode (status_of word).previous before.previous;
      priority = before.priority;
    })

-- A write to the status word's bus address changes every field but T.
unfoldable pub status_from_write : Psw → ℕ → Psw
status_from_write before word = record (status_of word) { trace = before.trace }
