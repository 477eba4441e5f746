-- Turns in which the processor waits and nothing is done.
use Rattle.std.specs.Prelude.{◌≡◌, ℕ, suc, ◌+◌, ◌<◌, ◌≤◌, true, false, is_none}
use Rattle.p11_unibus.specs.Acts.{bus_after_turn, is_any_due}
use Rattle.p11_unibus.specs.Requests.{highest_request}
use Rattle.p11_unibus.specs.State.{BusState}
use Rattle.p11_cpu.specs.OperatorDevices.{is_idle}
use Rattle.p11_cpu.specs.State.{HardwareState, Processor, State, unprepared}
use Rattle.p11_cpu.specs.Turns.{after_turns}

-- the processor waits, and hasn't halted
pub record IsWaiting (p : Processor) : Type 0 where
  pub waiting : p.waiting ≡ true
  pub running : p.halted ≡ false

-- the processor waits, no request stands above its priority, no mark stands that a turn clears, and nothing is seen
-- prepared
pub record IsAtRest (h : HardwareState) : Type 0 where
  pub waits : IsWaiting h.processor
  pub ungranted : is_none (highest_request h.processor.status.priority h.bus) ≡ true
  pub within : h.yellow_zone ≡ false
  pub unready : h.prepared ≡ unprepared

-- in so many turns that follow the turn of this number the devices change nothing, and before each of them one is due at
-- a later turn if one is before the first
pub record RestsFor (k turn : ℕ) (b : BusState) : Type 0 where
  pub acts : (j : ℕ) → j < k → bus_after_turn (turn + suc j) b ≡ b
  pub due : (j : ℕ) → j < k → is_any_due (turn + j) b ≡ is_any_due turn b

-- the processor waits through so many turns that follow the turn of this number
pub record WaitsThrough (k turn : ℕ) (h : HardwareState) : Type 0 where
  pub rests : 0 < k → IsAtRest h
  pub nothing : RestsFor k turn h.bus

-- So many turns take the machine there, in each of which the processor waits. After each of them the count of turns alone
-- has grown, and before each of them the machine idles exactly if it does before the first.
pub record WaitThere (k : ℕ) (s s' : State) : Type 0 where
  pub state : s' ≡ after_turns k s
  pub waits : 0 < k → IsWaiting s.processor
  pub counted : (j : ℕ) → j ≤ k → after_turns j s ≡ record s { turns = s.turns + j }
  pub idles : (j : ℕ) → j < k → is_idle (after_turns j s) ≡ is_idle s
