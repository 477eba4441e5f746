-- What is on the Unibus.
use Rattle.std.specs.Prelude.{ℕ, List, []}
use Rattle.p11_kw11.specs.LineClock.{LineClock, new_clock}
use Rattle.p11_dl11.specs.LineState.{LineState}
use Rattle.p11_dl11.specs.LineEvents.{new_line}
use Rattle.p11_memory.specs.Memory.{Words, new_memory}
use Rattle.p11_rk11.specs.State.{Rk11State, new_disk}

-- memory, as the words from address 0 up; the line clock; the console line; the disk controller with its drives; the
-- switch register; and the characters that were typed since they were last taken
pub record BusState : Type 0 where
  pub memory : Words
  pub clock : LineClock
  pub line : LineState
  pub disk : Rk11State
  pub switches : ℕ
  pub typed : List ℕ

-- a new machine's bus
unfoldable pub new_bus : ℕ → BusState
new_bus kwords =
    record { memory = new_memory kwords; clock = new_clock; line = new_line; disk = new_disk; switches = 0; typed = [] }
