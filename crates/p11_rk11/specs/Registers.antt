-- The controller's registers: what each shows, and what each event makes of them.
use Rattle.std.specs.Prelude.{ℕ, ◌+◌, ◌-◌, ◌*◌, ◌/◌, ◌%◌, min, bit_or, Bool, false, not, ◌==◌, ◌&&◌, ◌||◌, nat_le, Some, None, is_some, if◌then◌else◌}
use Rattle.p11_overlay.specs.Geometry.{cylinders, sector_words}
use Rattle.p11_words.specs.Bits.{flag, bit_of}
use Rattle.p11_rk11.specs.declared.registers.Registers.{Registers}
use Rattle.p11_rk11.specs.declared.errors.Failure.{Failure}
use Rattle.p11_rk11.specs.declared.errors.Failure.TheVariants.{Overrun}
use Rattle.p11_rk11.specs.declared.function.Function.TheVariants.{ControlReset}
use Rattle.p11_rk11.specs.Address.{word_address}
use Rattle.p11_rk11.specs.Drives.{sector_turns}
use Rattle.p11_rk11.specs.Errors.{error_bit}
use Rattle.p11_rk11.specs.Functions.{function_of, function_number, uses_memory}
use Rattle.p11_rk11.specs.Place.{place_of_word, next_place}

-- INIT and a control reset clear every register and drop the request; the controller is then ready,
-- as it is whenever no transfer runs.
unfoldable pub cleared_registers : Registers
cleared_registers =
    record {
      errors = 0;
      function = ControlReset;
      enable = false;
      stop_on_soft_error = false;
      format = false;
      inhibit_increment = false;
      search_complete = false;
      word_count = 0;
      bus_address = 0;
      disk_address = place_of_word 0;
      finished_seek = 0;
      transfer = None;
      request = false;
    }

abbrev pub is_ready : Registers → Bool
is_ready r = not (is_some r.transfer)

-- RKCS: 3:1 FUNCTION, 5:4 address 17:16 (EX), 6 enable (IDE), 7 ready (RDY), 8 stop on soft error (SSE), 10 format (FMT),
-- 11 inhibit increment (IBA), 13 search complete (SCP). 14 (HE) is 1 exactly where a bit of RKER other than 0 is set, and
-- 15 (ERR) exactly where RKER isn't 0. GO reads as 0.
unfoldable pub control_word : Registers → ℕ
control_word r =
    function_number r.function * 0o2 + r.bus_address / 0o200000 * 0o20 + flag r.enable 0o100 + flag (is_ready r) 0o200
    + flag r.stop_on_soft_error 0o400 + flag r.format 0o2000 + flag r.inhibit_increment 0o4000
    + flag r.search_complete 0o20000 + flag (not (r.errors / 2 == 0)) 0o40000 + flag (not (r.errors == 0)) 0o100000

-- A write of RKCS takes enable at any time. While enable is 0 no request stands.
unfoldable pub with_enable : ℕ → Registers → Registers
with_enable word r = record r { enable = bit_of word 0o100; request = bit_of word 0o100 && r.request }

-- While ready it takes bits 5:1, 8, 10 and 11 as well.
unfoldable pub with_control : ℕ → Registers → Registers
with_control word r =
    record r {
      function = function_of (word / 2 % 8);
      bus_address = word / 0o20 % 4 * 0o200000 + r.bus_address % 0o200000;
      stop_on_soft_error = bit_of word 0o400;
      format = bit_of word 0o2000;
      inhibit_increment = bit_of word 0o4000;
    }

-- an event that asks for an interrupt
unfoldable pub requested : Registers → Registers
requested r = record r { request = r.enable || r.request }

-- A function that ends sets ready and asks for an interrupt.
unfoldable pub ended : Registers → Registers
ended r = requested (record r { transfer = None })

-- a function that ends with an error
unfoldable pub failed : Failure → Registers → Registers
failed failure r = ended (record r { errors = bit_or r.errors (error_bit failure) })

-- RKWC is minus the words left; 0 means 65,536.
unfoldable pub words_left : Registers → ℕ
words_left r = 0o200000 - r.word_count

-- the words of one sector that move
unfoldable pub words_moved : Registers → ℕ
words_moved r = min sector_words (words_left r)

-- the address of each word of the sector
abbrev pub addresses : Registers → ℕ → ℕ
addresses r = word_address r.bus_address r.inhibit_increment

-- After a sector moved, RKWC grows by its words; the memory address is, for the functions that use memory, that of the
-- word after them; RKDA goes to the next sector.
unfoldable pub counters_advanced : Registers → Registers
counters_advanced r =
    record r {
      word_count = (r.word_count + words_moved r) % 0o200000;
      bus_address = if uses_memory r.function then addresses r (words_moved r) else r.bus_address;
      disk_address = next_place r.disk_address;
    }

-- The registers after a sector moved. RKER 0 is set where the words of a write check differed, and the counters go on.
-- The function ends where the words left before the sector were no more than it has, or where words differed and RKCS 8
-- stops on that; else with overrun where RKDA, after the sector, is past the last cylinder; else the next sector is due
-- 32 turns later.
unfoldable pub registers_after_sector : ℕ → Bool → Registers → Registers
registers_after_sector turn differs r =
    let moved = counters_advanced (record r { errors = if differs then bit_or r.errors 1 else r.errors }) in
    if nat_le (words_left r) sector_words || (differs && r.stop_on_soft_error) then ended moved
    else (if moved.disk_address.cylinder == cylinders then failed Overrun moved
    else record moved { transfer = Some (turn + sector_turns) })
