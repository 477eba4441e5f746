-- A run that C asks for.
use Rattle.std.specs.Prelude.{◌≡◌, ◌<◌, ℕ, Bool, List, ◌++◌, length, MatchOption}
use Rattle.p11_lines.specs.declared.answer.Answer.{Answer}
use Rattle.p11_lines.specs.declared.answer.Answer.TheVariants as answers
use Rattle.p11_lines.specs.declared.answer.StopReason.{StopReason}
use Rattle.p11_lines.specs.declared.answer.StopReason.TheVariants.{Halt, Turns, Idle, Memory}
use Rattle.p11_lines.specs.AnswerText.{text_of}
use Rattle.p11_cpu.specs.State.{State}
use Rattle.p11_panel.specs.Calls.Runs.{run_command}
use Rattle.p11_panel.specs.Commands.{CommandStep}
use Rattle.p11_panel.specs.Runs.{step_fault}
use Rattle.p11_handles.specs.Held.{Kept}
use Rattle.p11_handles.specs.declared.run.Run.{Run}
use Rattle.p11_handles.specs.declared.status.Status.{Status}
use Rattle.p11_handles.specs.declared.status.Status.TheVariants.{Done, NoMemory, BadSize, BadFiles, TooSmall, TooLong, NoMachine, NoFile, TooMany}

-- the number by which C knows why a run stopped
unfoldable pub number_of_reason : StopReason → ℕ
number_of_reason Halt = 0
number_of_reason Turns = 1
number_of_reason Idle = 2
number_of_reason Memory = 3

-- the numbers of a run: the turns that were made, why no more were, and PC
unfoldable pub told_run : ℕ → StopReason → ℕ → Run
told_run turns reason pc = record { turns = turns; reason = number_of_reason reason; pc = pc }

-- a text is kept: done, all of it; with no memory, a front of it that isn't all of it
unfoldable pub KeepsText : Status → List ℕ → List ℕ → Type 0
KeepsText Done text answer = answer ≡ text
KeepsText NoMemory text answer = (back : List ℕ) × (text ≡ answer ++ back) × (0 < length back)
KeepsText BadSize text answer = ⊥
KeepsText BadFiles text answer = ⊥
KeepsText TooSmall text answer = ⊥
KeepsText TooLong text answer = ⊥
KeepsText NoMachine text answer = ⊥
KeepsText NoFile text answer = ⊥
KeepsText TooMany text answer = ⊥

-- a run of n turns stops, as STEP makes it, or as CONTINUE does
abbrev pub AnswersStop : {A : Type 0} → Bool → ℕ → State → Answer A → State → Type 0
AnswersStop until_idle n s answer s' =
    CommandStep s (run_command until_idle n) answer s'
    × ((typed : List ℕ) × (reason : StopReason) × (k : ℕ) × (pc : ℕ) × (answer ≡ answers.Stop typed reason k pc))

-- A run of n turns is made as STEP makes it, or, asked to stop where the machine idles, as CONTINUE does: its numbers are
-- told, the text of its answer is kept, and the files stay.
pub record MakesRun (A : Type 0) (until_idle : Bool) (n : ℕ) (status : Status) (kept kept' : Kept) (told : Run)
    : Type 0 where
  pub typed : List ℕ
  pub reason : StopReason
  pub turns : ℕ
  pub pc : ℕ
  pub stops : CommandStep {A = A} kept.machine (run_command until_idle n) (answers.Stop typed reason turns pc)
      kept'.machine
  pub told_is : told ≡ told_run turns reason pc
  pub files_are : kept'.files ≡ kept.files
  pub text_kept : KeepsText status (text_of {A = A} (answers.Stop typed reason turns pc)) kept'.answer

-- how a run of n turns ends: it is made, or, where STEP refuses so many turns, nothing changes and nothing is told
abbrev pub RunEnds : (A : Type 0) → Bool → ℕ → Status → Kept → Run → Kept → Run → Type 0
RunEnds A until_idle n status kept told kept' told' =
    MatchOption (step_fault n kept.machine) (MakesRun A until_idle n status kept kept' told')
    (λ fault. (status ≡ TooMany) × (kept' ≡ kept) × (told' ≡ told))
