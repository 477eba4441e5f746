-- Laws of the definitions: what is one, where memory refused and stopped nothing.
use Rattle.std.specs.Prelude.{◌≡◌, ◌≢◌, ℕ, Bool, List, All}
use Rattle.p11_lines.specs.declared.answer.Answer.{Answer}
use Rattle.p11_lines.specs.declared.answer.Answer.TheVariants as answers
use Rattle.p11_lines.specs.declared.answer.StopReason.{StopReason}
use Rattle.p11_lines.specs.declared.answer.StopReason.TheVariants.{Memory}
use Rattle.p11_lines.specs.declared.fault.Fault.TheVariants.{NoMemory}
use Rattle.p11_cpu.specs.State.{State}
use Rattle.p11_panel.specs.declared.command.Command.{Command}
use Rattle.p11_panel.specs.Commands.{CommandStep}
use Rattle.p11_panel.specs.Play.{CommandsRun}
use Rattle.p11_panel.specs.Calls.Runs.{IsRun}

-- a run of n turns from s that want of memory doesn't stop makes one number of turns, for one reason, and comes to one
-- state
abbrev pub RunsHaveOneOutcome : Type 0
RunsHaveOneOutcome =
    (idles : State → Bool) (n : ℕ) (s : State) (k l : ℕ) (reason other : StopReason) (s' t' : State)
    → IsRun idles n s k reason s' → IsRun idles n s l other t' → reason ≢ Memory → other ≢ Memory
    → (k ≡ l) × (reason ≡ other) × (s' ≡ t')

-- memory neither refused the command nor stopped its run
abbrev pub HadMemory : {A : Type 0} → Answer A → Type 0
HadMemory answer =
    (answer ≢ answers.Refused NoMemory) × ((typed : List ℕ) (k pc : ℕ) → answer ≢ answers.Stop typed Memory k pc)

-- a command has one answer and one next state
abbrev pub CommandsHaveOneOutcome : Type 0 → Type 0
CommandsHaveOneOutcome A =
    (s : State) (command : Command A) (answer other : Answer A) (s' t' : State)
    → CommandStep s command answer s' → CommandStep s command other t' → HadMemory answer → HadMemory other
    → (answer ≡ other) × (s' ≡ t')

-- a list of commands has one list of answers and one last state
abbrev pub ListsHaveOneOutcome : Type 0 → Type 0
ListsHaveOneOutcome A =
    (s : State) (commands : List (Command A)) (given others : List (Answer A)) (s' t' : State)
    → CommandsRun s commands given s' → CommandsRun s commands others t' → All HadMemory given → All HadMemory others
    → (given ≡ others) × (s' ≡ t')
