-- A program's references, and which addresses answer.
use Rattle.std.specs.Prelude.{ℕ, Bool, is_some, Result, Ok, Err, ◌==◌, if◌then◌else◌}
use Rattle.p11_memory.specs.Memory.{stored}
use Rattle.p11_unibus.specs.Bus.{see, after_read, shown_or, change, answered_or, replaced_or, transmitter_high_byte}
use Rattle.p11_unibus.specs.Bytes.{byte_at, even, with_byte}
use Rattle.p11_unibus.specs.State.{BusState}
use Rattle.p11_unibus.specs.declared.bytes.TimeOut.{TimeOut}

-- the bus once a word is stored at an address of memory
abbrev pub with_word : ℕ → ℕ → BusState → BusState
with_word pa word b = record b { memory = stored b.memory pa word }

-- whether a word shows at an address in this turn
unfoldable pub answers : ℕ → ℕ → BusState → Bool
answers turn pa b = is_some (see turn pa b)

-- the half of a word that was read that stands at an address
abbrev pub half_of : {S E : Type 0} → ℕ → S × Result ℕ E → S × Result ℕ E
half_of pa (s, Ok word) = (s, Ok (byte_at pa word))
half_of pa (s, Err fault) = (s, Err fault)

abbrev pub time_out : TimeOut
time_out = record {}

-- a read of the word at an address
unfoldable pub read_word_of : ℕ → ℕ → BusState → BusState × Result ℕ TimeOut
read_word_of turn pa b = (after_read pa b, shown_or time_out (see turn pa b))

-- a write of a word at an address
unfoldable pub write_word_of : ℕ → ℕ → ℕ → BusState → BusState × Result (Unit {0}) TimeOut
write_word_of turn pa word b = (change turn pa word b, answered_or time_out (answers turn pa b))

-- a read of a byte: half of the word that is read
unfoldable pub read_byte_of : ℕ → ℕ → BusState → BusState × Result ℕ TimeOut
read_byte_of turn pa b = half_of pa (read_word_of turn (even pa) b)

-- A write of a byte: the word that shows is written with that byte replaced. At the high byte of the transmitter buffer
-- it is answered and does nothing, so that no character is sent.
unfoldable pub write_byte_of : ℕ → ℕ → ℕ → BusState → BusState × Result (Unit {0}) TimeOut
write_byte_of turn pa byte b =
    if pa == transmitter_high_byte then (b, Ok tt)
    else replaced_or time_out (see turn (even pa) b) (λ word. change turn (even pa) (with_byte pa byte word) b) b
