-- What comes behind a slice of a run, and behind its end.
use Rattle.std.specs.Prelude.{ℕ, Bool, if◌then◌else◌}
use Rattle.p11_lines.specs.declared.answer.Answer.{Answer}
use Rattle.p11_lines.specs.declared.answer.Answer.TheVariants as answers
use Rattle.p11_lines.specs.declared.answer.StopReason.{StopReason}
use Rattle.p11_dialogue.specs.Record.{run_text}
use Rattle.p11_dialogue.specs.Runs.{goes_on, next_run}
use Rattle.p11_dialogue.specs.declared.run.RunProgress.{RunProgress}
use Rattle.p11_dialogue.specs.declared.stop.StopCause.{StopCause}
use Rattle.p11_dialogue.specs.declared.stop.StopCause.TheVariants.{Reason, End}
use Rattle.p11_dialogue.specs.declared.activity.Activity.{Activity}
use Rattle.p11_dialogue.specs.declared.activity.Activity.TheVariants as activities

-- what comes behind a slice that stopped: the next, or the run is told and recorded as a whole
unfoldable pub activity_stopped : {A : Type 0} → Bool → RunProgress → StopReason → ℕ → Activity A
activity_stopped {A} is_going run reason pc =
    if is_going then activities.Running run
    else activities.Stopped (record { cause = Reason reason; total = run.total; pc = pc; is_fresh = run.is_fresh }) (run_text A run.made)

unfoldable pub activity_behind : {A : Type 0} → RunProgress → Answer A → Activity A
activity_behind run (answers.Stop typed reason turns pc) =
    activity_stopped (goes_on run reason turns) (next_run run typed reason turns) reason pc
activity_behind {A} run (answers.Refused fault) = activities.Telling (answers.Refused fault) (run_text A run.made) tt
activity_behind run _ = activities.Free

-- what comes behind the end of a run
abbrev pub activity_ended : {A : Type 0} → StopCause → Activity A
activity_ended End = activities.Leaving
activity_ended _ = activities.Free
