-- The words of a range of bus addresses: n words from an address on, each 2 above the one before.
use Rattle.std.specs.Prelude.{ℕ, zero, suc, ◌+◌, ◌-◌, ◌*◌, ◌%◌, List, [], ◌∷◌, ◌++◌, Bool, true, ◌&&◌, ◌||◌, nat_le, nat_lt, ◌==◌, slice_index, Option, None, Some, if◌then◌else◌}
use Rattle.p11_lines.specs.declared.fault.Fault.{Fault}
use Rattle.p11_lines.specs.declared.fault.Fault.TheVariants.{TooMany, OddAddress, NoAnswer}
use Rattle.p11_lines.specs.declared.answer.Answer.{Answer}
use Rattle.p11_lines.specs.declared.answer.Answer.TheVariants.{Word, Words}
use Rattle.p11_cpu.specs.State.{State}
use Rattle.p11_cpu.specs.Operator.{answers_of, examine_of, deposit_of}

-- an address past 777777 is none, and doesn't answer
unfoldable pub answers_at : ℕ → State → Bool
answers_at address s = nat_le address 0o777777 && answers_of address s

unfoldable pub all_answer : ℕ → ℕ → State → Bool
all_answer address zero s = true
all_answer address (suc n) s = all_answer address n s && answers_at (address + 2 * n) s

-- a range begins at an even address, and all of its words answer
unfoldable pub range_fault : ℕ → ℕ → State → Option Fault
range_fault address n s =
    if address % 2 == 1 then Some OddAddress else (if all_answer address n s then None else Some NoAnswer)

-- EXAMINE: a range of 1 to 512 words
unfoldable pub examine_fault : ℕ → ℕ → State → Option Fault
examine_fault address n s = if n == 0 || nat_lt 512 n then Some TooMany else range_fault address n s

-- whether more than one word is written, and some of the range lies in the I/O page, which is 760000 to 777777
unfoldable pub touches_io_page : ℕ → ℕ → Bool
touches_io_page address n = nat_lt 1 n && (nat_le address 0o777777 && nat_le 0o760000 (address + 2 * (n - 1)))

-- DEPOSIT: a range of 1 to 64 words, or where it touches the I/O page of one
unfoldable pub deposit_fault : ℕ → ℕ → State → Option Fault
deposit_fault address n s =
    if n == 0 || nat_lt 64 n || touches_io_page address n then Some TooMany else range_fault address n s

-- the machine once so many words are read, one after another, and the words
unfoldable pub reads_at : ℕ → ℕ → State → State × List ℕ
reads_at address zero s = (s, [])
reads_at address (suc n) s =
    let earlier = reads_at address n s in
    let last = examine_of (address + 2 * n) earlier.0 in
    (last.0, earlier.1 ++ last.1 ∷ [])

-- the machine once so many words are read, and the answer: a word, or a list of words
unfoldable pub examined : {A : Type 0} → ℕ → ℕ → State → State × Answer A
examined address n s =
    let read = reads_at address n s in
    (read.0, if n == 1 then Word address (slice_index read.1 0) else Words address read.1)

-- the machine once the words are written, one after another
unfoldable pub deposited : ℕ → List ℕ → State → State
deposited address [] s = s
deposited address (word ∷ words) s = deposited (address + 2) words (deposit_of address word s)
