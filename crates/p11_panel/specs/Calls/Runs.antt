-- A run of turns as a relation, and the command that asks for it.
use Rattle.std.specs.Prelude.{◌≡◌, ℕ, ◌<◌, ◌≤◌, Bool, true, false, ◌&&◌, Option, None, Some, MatchOption, ◌==◌, if◌then◌else◌}
use Rattle.p11_lines.specs.declared.answer.Answer.{Answer}
use Rattle.p11_lines.specs.declared.answer.Answer.TheVariants as answers
use Rattle.p11_lines.specs.declared.answer.StopReason.{StopReason}
use Rattle.p11_lines.specs.declared.answer.StopReason.TheVariants as reasons
use Rattle.p11_cpu.specs.State.{State}
use Rattle.p11_cpu.specs.Prepared.{needs_memory}
use Rattle.p11_cpu.specs.OperatorDevices.{is_idle}
use Rattle.p11_cpu.specs.Turns.{after_turns}
use Rattle.p11_panel.specs.declared.command.Command.{Command}
use Rattle.p11_panel.specs.declared.command.Command.TheVariants.{Step, Continue}
use Rattle.p11_panel.specs.Runs.{last_halted}

-- Why a run of n turns from s stops when k are made, if it does. The first that holds: the last of them halted; n are
-- made; the machine idles, for a run that asks so.
unfoldable pub stop_of : (State → Bool) → ℕ → ℕ → State → Option StopReason
stop_of idles n k s =
    if last_halted k s then Some reasons.Halt
    else (if k == n then Some reasons.Turns
    else (if idles (after_turns k s) then Some reasons.Idle else None))

-- where a run stops for idling, if it is asked to
abbrev pub stops_idling : Bool → State → Bool
stops_idling until_idle s = until_idle && is_idle s

-- the next turn wants memory, which was refused
abbrev pub IsMemory : StopReason → State → Type 0
IsMemory reason s = (reason ≡ reasons.Memory) × (needs_memory s ≡ true)

-- A run of n turns from s makes k of them and comes to s'. The reason is the first that holds for k turns, and where
-- none does it is want of memory. For no fewer turns any held.
pub record IsRun (idles : State → Bool) (n : ℕ) (s : State) (k : ℕ) (reason : StopReason) (s' : State) : Type 0 where
  pub state : s' ≡ after_turns k s
  pub stops : MatchOption (stop_of idles n k s) (IsMemory reason s') (λ first. reason ≡ first)
  pub goes_on : (j : ℕ) → j < k → stop_of idles n j s ≡ None

-- the command that asks for a run of n turns, which stops where the machine idles, or doesn't
abbrev pub run_command : {A : Type 0} → Bool → ℕ → Command A
run_command true n = Continue n
run_command false n = Step n

-- a run of n turns answers that it stopped, after n turns at most, or that it is refused
abbrev pub StopsWithin : {A : Type 0} → ℕ → Answer A → Type 0
StopsWithin n (answers.Stop typed reason k pc) = k ≤ n
StopsWithin n (answers.Refused fault) = Unit {0}
StopsWithin n _ = ⊥

-- the run of a command, if it makes one
abbrev pub RunsWithin : {A : Type 0} → Command A → Answer A → Type 0
RunsWithin (Step n) answer = StopsWithin n answer
RunsWithin (Continue n) answer = StopsWithin n answer
RunsWithin _ answer = Unit {0}
