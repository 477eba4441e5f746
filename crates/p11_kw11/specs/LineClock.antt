-- The KW11-L line clock. A tick of the line sets its monitor bit, and interrupts where the program has enabled it. The
-- operator ticks the line by hand, or sets a period after which it ticks by itself, again and again.
use Rattle.std.specs.Prelude.{ℕ, ◌+◌, Bool, true, false, ◌==◌, ◌&&◌, ◌||◌, not, Option, Some, None, if◌then◌else◌}
use Rattle.p11_words.specs.Bits.{flag, bit_of}
use Rattle.p11_words.specs.DueTurns.{is_due}

pub record LineClock : Type 0 where
  -- bit 7 of the status register: the line has ticked since the program last cleared the bit
  pub monitor : Bool
  -- bit 6: the clock may interrupt
  pub enable : Bool
  -- an interrupt is requested
  pub request : Bool
  -- how many turns lie between two ticks that the line makes by itself; with 0 it makes none
  pub period : ℕ
  -- the turn in which the line next ticks by itself, if it does
  pub due : Option ℕ

-- a new clock: monitor set, interrupts disabled, no request; the line doesn't tick by itself
unfoldable pub new_clock : LineClock
new_clock = record { monitor = true; enable = false; request = false; period = 0; due = None }

-- INIT: monitor set, interrupts disabled, no request. The period and the due turn stay, since INIT reaches the clock
-- and not the line that it counts.
unfoldable pub clock_after_init : LineClock → LineClock
clock_after_init k = record k { monitor = true; enable = false; request = false }

-- the word of the status register; bits other than 7 and 6 read as 0
unfoldable pub clock_word : LineClock → ℕ
clock_word k = flag k.monitor 0o200 + flag k.enable 0o100

-- a tick sets the monitor bit, and requests an interrupt where it is enabled
unfoldable pub clock_after_tick : LineClock → LineClock
clock_after_tick k = record k { monitor = true; request = k.request || k.enable }

-- A write to the status register. A 0 in bit 7 clears the monitor bit, a 1 leaves it. While interrupts are disabled
-- there is no request. One is raised where enable rises while the monitor bit, as it stands after the write, is 1.
unfoldable pub clock_after_write : ℕ → LineClock → LineClock
clock_after_write word k =
    let monitor = k.monitor && bit_of word 0o200 in
    let enable = bit_of word 0o100 in
    record k { monitor = monitor; enable = enable; request = enable && (k.request || (monitor && not k.enable)) }

-- the processor serves the interrupt
unfoldable pub clock_after_service : LineClock → LineClock
clock_after_service k = record k { request = false }

-- THE PERIOD

-- the turn of the next tick, and none for period 0
abbrev pub next_tick : ℕ → ℕ → Option ℕ
next_tick turn period = if period == 0 then None else Some (turn + period)

-- the operator sets a period when so many turns are done, from which the count of turns starts anew
unfoldable pub clock_after_period : ℕ → ℕ → LineClock → LineClock
clock_after_period turn period k = record k { period = period; due = next_tick turn period }

-- what the clock does in a turn: in its due turn the line ticks, and is due again a period later
unfoldable pub clock_after_turn : ℕ → LineClock → LineClock
clock_after_turn turn k =
    if is_due turn k.due then record (clock_after_tick k) { due = next_tick turn k.period } else k
