-- The Unibus as an address space of bytes at addresses of 18 bits: what shows at an address, what a write of a word
-- there leaves, and what a read leaves. All that references of a program and of the operator do follows from these
-- three. They are told the number of the turn, since a device's register may show it. An odd address holds no word, so
-- it answers nowhere.
use Rattle.std.specs.Prelude.{ℕ, Bool, true, false, Option, Some, None, option_map, Result, Ok, Err, if◌then◌else◌}
use Rattle.std.specs.Option.{option_map_or}
use Rattle.p11_kw11.specs.LineClock.{clock_word, clock_after_write}
use Rattle.p11_dl11.specs.LineEvents.{line_word, line_after_read, line_after_write}
use Rattle.p11_memory.specs.Memory.{has_word, word_at, stored}
use Rattle.p11_rk11.specs.Starts.{disk_after_write}
use Rattle.p11_rk11.specs.State.{disk_word}
use Rattle.p11_unibus.specs.declared.register.Register.{Register}
use Rattle.p11_unibus.specs.declared.register.Register.TheVariants.{Clock, Line, Disk, Switches}
use Rattle.p11_unibus.specs.Registers.{register_at}
use Rattle.p11_unibus.specs.State.{BusState}

-- REGISTERS

-- the word that a register shows in this turn
unfoldable pub register_word : ℕ → Register → BusState → ℕ
register_word turn (Clock r) b = clock_word b.clock
register_word turn (Line r) b = line_word r b.line
register_word turn (Disk r) b = disk_word turn r b.disk
register_word turn Switches b = b.switches

-- the bus once a word is written to a register in this turn; the switches can't be written
unfoldable pub register_changed : ℕ → Register → ℕ → BusState → BusState
register_changed turn (Clock r) word b = record b { clock = clock_after_write word b.clock }
register_changed turn (Line r) word b = record b { line = line_after_write turn r word b.line }
register_changed turn (Disk r) word b = record b { disk = disk_after_write turn r word b.disk }
register_changed turn Switches word b = b

-- the bus once a register is read
unfoldable pub register_after_read : Register → BusState → BusState
register_after_read (Clock r) b = b
register_after_read (Line r) b = record b { line = line_after_read r b.line }
register_after_read (Disk r) b = b
register_after_read Switches b = b

-- THE ADDRESS SPACE

-- the word that shows at an address in this turn, or no answer; looking changes nothing
unfoldable pub see : ℕ → ℕ → BusState → Option ℕ
see turn pa b =
    if has_word b.memory pa then Some (word_at b.memory pa)
    else option_map (λ register. register_word turn register b) (register_at pa)

-- the bus once a word is written at an address in this turn; where nothing answers it stays
unfoldable pub change : ℕ → ℕ → ℕ → BusState → BusState
change turn pa word b =
    if has_word b.memory pa then record b { memory = stored b.memory pa word }
    else option_map_or (λ register. register_changed turn register word b) (register_at pa) b

-- the bus once the word at an address is read; where nothing answers it stays
unfoldable pub after_read : ℕ → BusState → BusState
after_read pa b =
    if has_word b.memory pa then b else option_map_or (λ register. register_after_read register b) (register_at pa) b

-- REFERENCES

-- a word that shows, or the fault of an address where nothing answers
abbrev pub shown_or : {E : Type 0} → E → Option ℕ → Result ℕ E
shown_or fault (Some word) = Ok word
shown_or fault None = Err fault

-- a write that is answered, or the fault
abbrev pub answered_or : {E : Type 0} → E → Bool → Result (Unit {0}) E
answered_or fault true = Ok tt
answered_or fault false = Err fault

-- the state after a word is put in the place of the one that shows, or the fault and no change
abbrev pub replaced_or : {S E : Type 0} → E → Option ℕ → (ℕ → S) → S → S × Result (Unit {0}) E
replaced_or fault (Some word) after s = (after word, Ok tt)
replaced_or fault None after s = (s, Err fault)

-- the high byte of the transmitter buffer
abbrev pub transmitter_high_byte : ℕ
transmitter_high_byte = 0o777567
