-- What a line does, and brings under way.
use Rattle.std.specs.Prelude.{◌≡◌, ℕ, Bool, true, false, not, nat_lt, ◌==◌, ◌||◌, List, [], Option, Some, None, Result, Ok, Err, if◌then◌else◌}
use Rattle.std.specs.Bool.{MatchBool}
use Rattle.p11_lines.specs.declared.answer.Answer.{Answer}
use Rattle.p11_lines.specs.declared.answer.Answer.TheVariants as answers
use Rattle.p11_lines.specs.declared.fault.Fault.TheVariants.{BadLine, TooMany}
use Rattle.p11_lines.specs.declared.line.Line.{Line}
use Rattle.p11_lines.specs.declared.line.Line.TheVariants as lines
use Rattle.p11_lines.specs.Grammar.{line_from}
use Rattle.p11_cpu.specs.State.{State}
use Rattle.p11_panel.specs.declared.command.Command.{Command}
use Rattle.p11_panel.specs.declared.command.Command.TheVariants as commands
use Rattle.p11_panel.specs.Commands.{CommandStep}
use Rattle.p11_panel.specs.Calls.Runs.{run_command}
use Rattle.p11_panel.specs.Session.{has_answer}
use Rattle.p11_dialogue.specs.LineKinds.{kind_of_line, script_name}
use Rattle.p11_dialogue.specs.Record.{ended, recorded}
use Rattle.p11_dialogue.specs.Runs.{run_of, talk_of}
use Rattle.p11_dialogue.specs.declared.settings.Trying.{Trying}
use Rattle.p11_dialogue.specs.declared.line_kind.LineKind.{LineKind}
use Rattle.p11_dialogue.specs.declared.line_kind.LineKind.TheVariants as kinds
use Rattle.p11_dialogue.specs.declared.activity.Activity.{Activity}
use Rattle.p11_dialogue.specs.declared.activity.Activity.TheVariants.{Free, Helping, Running, Telling, Fetching, Putting, Unmounting, Opening, Leaving}

-- a refusal, of which nothing is recorded
abbrev pub refused : {A : Type 0} → Answer A → Activity A
refused answer = Telling answer [] tt

-- a run has 1 to 100,000,000 turns
unfoldable pub run_begun : {A : Type 0} → ℕ → Bool → Activity A
run_begun turns until_idle =
    if turns == 0 || nat_lt 100000000 turns then refused (answers.Refused TooMany) else Running (run_of turns until_idle)

-- the command of a line that makes no run, names no file and takes no pack off; and of another line that one
unfoldable pub command_of : {A : Type 0} → Line A → Result (Command A) (Line A)
command_of (lines.Changed drive) = Ok (commands.Changed drive)
command_of (lines.Examine address count) = Ok (commands.Examine address count)
command_of (lines.Deposit address words) = Ok (commands.Deposit address words)
command_of (lines.Start address) = Ok (commands.Start address)
command_of (lines.Key text) = Ok (commands.Key text)
command_of lines.Tick = Ok commands.Tick
command_of (lines.Clock period) = Ok (commands.Clock period)
command_of (lines.Switches word) = Ok (commands.Switches word)
command_of (lines.Set register value) = Ok (commands.Set register value)
command_of lines.Flush = Ok commands.Flush
command_of lines.Regs = Ok commands.Regs
command_of lines.Device = Ok commands.Device
command_of line = Err line

-- a command is done, is told next, and its line is recorded unless it was refused
unfoldable pub Acts : {A : Type 0} → Command A → List ℕ → State → Activity A → State → Type 0
Acts {A} command text s activity s' =
    (answer : Answer A) × CommandStep s command answer s' × (activity ≡ Telling answer (recorded text answer) tt)

-- a line of the language is a command, or waits for its file
abbrev pub ActsOr : {A : Type 0} → Line A → Result (Command A) (Line A) → State → Activity A → State → Type 0
ActsOr line (Ok command) s activity s' = Acts command (ended line) s activity s'
ActsOr line (Err other) s activity s' = (activity ≡ Fetching other (ended line)) × (s' ≡ s)

-- The image of a pack waits for its file, which is asked for anew if one is there. A SAVE that writes nothing is answered,
-- and isn't recorded.
unfoldable pub activity_saved : {A : Type 0} → Trying → Line A → List ℕ → Answer A → Activity A
activity_saved how line text (answers.Image image) =
    if how.is_saveless then Telling answers.Done [] tt else Putting line image text (not how.is_asking)
activity_saved how line text answer = Telling answer (recorded text answer) tt

unfoldable pub Saves : {A : Type 0} → Trying → ℕ → Line A → List ℕ → State → Activity A → State → Type 0
Saves {A} how drive line text s activity s' =
    (answer : Answer A) × CommandStep s (commands.Save drive) answer s' × (activity ≡ activity_saved how line text answer)

-- a run is made in slices, or at once
unfoldable pub TriesRun : {A : Type 0} → Trying → Line A → ℕ → Bool → State → Activity A → State → Type 0
TriesRun how line turns until_idle s activity s' =
    MatchBool how.is_whole (Acts (run_command until_idle turns) (ended line) s activity s')
    ((activity ≡ run_begun turns until_idle) × (s' ≡ s))

-- a pack is taken off; where a person may be asked first, by a step of its own
unfoldable pub TriesUnmount : {A : Type 0} → Trying → ℕ → State → Activity A → State → Type 0
TriesUnmount {A} how drive s activity s' =
    MatchBool how.is_asking ((activity ≡ Unmounting drive false) × (s' ≡ s))
    (Acts (commands.Unmount drive) (ended {A = A} (lines.Unmount drive)) s activity s')

unfoldable pub TriesLine : {A : Type 0} → Trying → Line A → State → Activity A → State → Type 0
TriesLine how (lines.Step turns) s activity s' = TriesRun how (lines.Step turns) turns false s activity s'
TriesLine how (lines.Continue turns) s activity s' = TriesRun how (lines.Continue turns) turns true s activity s'
TriesLine how (lines.Unmount drive) s activity s' = TriesUnmount how drive s activity s'
TriesLine {A} how (lines.Save drive name) s activity s' =
    Saves {A = A} how drive (lines.Save drive name) (ended {A = A} (lines.Save drive name)) s activity s'
TriesLine how line s activity s' = ActsOr line (command_of line) s activity s'

-- by what the grammar makes of it
abbrev pub TriesOr : {A : Type 0} → Trying → Option (Line A) → State → Activity A → State → Type 0
TriesOr how None s activity s' = (activity ≡ refused (answers.Refused BadLine)) × (s' ≡ s)
TriesOr how (Some line) s activity s' = TriesLine how line s activity s'

-- a text that may be a line of the language; a blank one or a remark does nothing
unfoldable pub Tries : {A : Type 0} → Trying → List ℕ → State → Activity A → State → Type 0
Tries how text s activity s' = MatchBool (has_answer text) (TriesOr how (line_from text) s activity s') ((activity ≡ Free) × (s' ≡ s))

-- a line by what it is to the console
abbrev pub Does : {A : Type 0} → LineKind → Trying → List ℕ → State → Activity A → State → Type 0
Does kinds.Talk how line s activity s' = (activity ≡ Running talk_of) × (s' ≡ s)
Does kinds.Once how line s activity s' = (activity ≡ run_begun 1 false) × (s' ≡ s)
Does kinds.Quit how line s activity s' = (activity ≡ Leaving) × (s' ≡ s)
Does kinds.Help how line s activity s' = (activity ≡ Helping tt) × (s' ≡ s)
Does kinds.Do how line s activity s' = (activity ≡ Opening (script_name line)) × (s' ≡ s)
Does kinds.Language how line s activity s' = Tries how line s activity s'

-- a line that was typed, or that a typed one means
unfoldable pub DoesLine : {A : Type 0} → Trying → List ℕ → State → Activity A → State → Type 0
DoesLine how line s activity s' = Does (kind_of_line line) how line s activity s'
