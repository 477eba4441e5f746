-- LOAD: the data bytes of a tape go to memory, each to its address.
use Rattle.std.specs.Prelude.{ℕ, List, length, fold, Bool, Result, Ok, Err, if◌then◌else◌}
use Rattle.std.specs.List.{list_all}
use Rattle.p11_tape.specs.Reading.{Meaning}
use Rattle.p11_tape.specs.declared.fault.TapeFault.{TapeFault}
use Rattle.p11_lines.specs.declared.fault.Fault.TheVariants.{BadTape, NoAnswer}
use Rattle.p11_lines.specs.declared.answer.Answer.{Answer}
use Rattle.p11_lines.specs.declared.answer.Answer.TheVariants.{Tape, Refused}
use Rattle.p11_cpu.specs.State.{State}
use Rattle.p11_cpu.specs.Operator.{holds_byte_of, put_byte_of}

-- whether memory has a byte at each of the addresses
unfoldable pub all_fit : List (ℕ × ℕ) → State → Bool
all_fit placed s = list_all (λ byte. holds_byte_of byte.0 s) placed

-- the machine once the bytes are written, one after another
unfoldable pub loaded : List (ℕ × ℕ) → State → State
loaded placed s = fold (λ (before : State) byte. put_byte_of byte.0 byte.1 before) s placed

-- Bytes that are no tape are refused. Of a tape no byte is written where memory lacks one of the addresses.
abbrev pub tape_loaded : {A : Type 0} → Result Meaning TapeFault → State → State × Answer A
tape_loaded (Err fault) s = (s, Refused BadTape)
tape_loaded (Ok tape) s =
    if all_fit tape.placed s then (loaded tape.placed s, Tape (length tape.placed) tape.start)
    else (s, Refused NoAnswer)
