-- What a console does at a step.
use Rattle.std.specs.Prelude.{◌≡◌, ℕ, ◌-◌, Bool, true, false, not, ◌&&◌, ◌||◌, nat_lt, nat_eq, List, [], ◌++◌, length, drop, position, is_some, is_none, slice_get, Option, Some, None, Result, Ok, Err, IsTrue, if◌then◌else◌}
use Rattle.std.specs.Bool.{MatchBool}
use Rattle.p11_lines.specs.declared.answer.Answer.{Answer}
use Rattle.p11_lines.specs.declared.answer.Answer.TheVariants as answers
use Rattle.p11_lines.specs.declared.fault.Fault.TheVariants.{BadLine}
use Rattle.p11_lines.specs.declared.line.Line.{Line}
use Rattle.p11_lines.specs.declared.line.Line.TheVariants as lines
use Rattle.p11_lines.specs.AnswerText.{text_of}
use Rattle.p11_cpu.specs.State.{State}
use Rattle.p11_cpu.specs.OperatorDevices.{room_of}
use Rattle.p11_panel.specs.declared.command.Command.TheVariants.{Tick, Unmount}
use Rattle.p11_panel.specs.Calls.Runs.{run_command}
use Rattle.p11_panel.specs.Commands.{CommandStep}
use Rattle.p11_panel.specs.Keys.{pressed}
use Rattle.p11_phrases.specs.declared.phrase.Phrase.{Phrase}
use Rattle.p11_phrases.specs.declared.place.ExaminedPlace.{ExaminedPlace}
use Rattle.p11_phrases.specs.declared.refusal.Refusal.{Refusal}
use Rattle.p11_phrases.specs.Phrases.{meaning}
use Rattle.p11_dialogue.specs.Lines.{first_line, behind_line, is_line_feed}
use Rattle.p11_dialogue.specs.Manner.{is_person, is_batch, tried_by}
use Rattle.p11_dialogue.specs.LineKinds.{kind_of_line, verb_of}
use Rattle.p11_dialogue.specs.Record.{ended, run_text, keys_text, tick_text}
use Rattle.p11_dialogue.specs.Runs.{talk_of, course_of, given_keys, behind_escape, without_interrupt, slice_turns, at_slice, pressed_on, recorded_on, typed_in}
use Rattle.p11_dialogue.specs.Said.{Says, SaysBefore}
use Rattle.p11_dialogue.specs.Behind.{activity_behind, activity_ended}
use Rattle.p11_console.specs.Saved.{any_unsaved, all_drives, loses_sectors}
use Rattle.p11_console.specs.State.{ConsoleState}
use Rattle.p11_dialogue.specs.Stops.{stop_text}
use Rattle.p11_console.specs.Tries.{Acts, DoesLine, Tries, refused, run_begun}
use Rattle.p11_dialogue.specs.Typing.{taken, line_of, kept_line, past_of, outcome_activity, CompletedBy}
use Rattle.p11_dialogue.specs.declared.line_kind.LineKind.{LineKind}
use Rattle.p11_dialogue.specs.declared.line_kind.LineKind.TheVariants.{Quit, Once}
use Rattle.p11_dialogue.specs.declared.run.RunProgress.{RunProgress}
use Rattle.p11_dialogue.specs.declared.run.Course.{Course}
use Rattle.p11_dialogue.specs.declared.run.Course.TheVariants as course
use Rattle.p11_dialogue.specs.declared.stop.StopCause.{StopCause}
use Rattle.p11_dialogue.specs.declared.stop.StopCause.TheVariants.{Key, End}
use Rattle.p11_dialogue.specs.declared.activity.Activity.{Activity}
use Rattle.p11_dialogue.specs.declared.activity.Activity.TheVariants as activities
use Rattle.p11_dialogue.specs.declared.want.Want.{Want}
use Rattle.p11_dialogue.specs.declared.want.Want.TheVariants as wants

-- there are some bytes
abbrev pub has_some : List ℕ → Bool
has_some bytes = nat_lt 0 (length bytes)

abbrev pub is_by_person : {A : Type 0} → ConsoleState A → Bool
is_by_person c = is_person c.settings.manner

abbrev pub is_all : {A : Type 0} → ConsoleState A → Bool
is_all c = is_batch c.settings.manner

-- ---- the next line

abbrev pub is_quit : LineKind → Bool
is_quit Quit = true
is_quit _ = false

abbrev pub is_once : LineKind → Bool
is_once Once = true
is_once _ = false

-- the warning stands while nothing but `quit` is asked for
unfoldable pub still_warned : Bool → List ℕ → Bool
still_warned is_warned line = is_warned && is_quit (kind_of_line line)

-- the first of the lines that the typed one means is said and done, and is gone
abbrev pub DoesMeant : {A : Type 0} → ConsoleState A → ConsoleState A → Type 0
DoesMeant c c' =
    DoesLine (tried_by c.settings) (first_line c.lines) c.machine c'.activity c'.machine × Says c.screen c'.screen
    × (c' ≡ record c {
      machine = c'.machine;
      lines = behind_line c.lines;
      is_stepping = is_once (kind_of_line (first_line c.lines));
      is_scripted = false;
      is_warned = still_warned c.is_warned (first_line c.lines);
      screen = c'.screen;
      activity = c'.activity;
    })

-- the first line of the script is done, and is gone
abbrev pub DoesScripted : {A : Type 0} → ConsoleState A → ConsoleState A → Type 0
DoesScripted c c' =
    Tries (tried_by c.settings) (first_line c.script) c.machine c'.activity c'.machine
    × (c' ≡ record c {
      machine = c'.machine;
      script = behind_line c.script;
      is_scripted = true;
      is_warned = false;
      activity = c'.activity;
    })

-- a script has a line that is to be done: one that is strict ends at its first refused line
abbrev pub has_scripted : {A : Type 0} → ConsoleState A → Bool
has_scripted c = has_some c.script && not (is_all c && (c.settings.is_strict && c.has_refused))

-- what comes behind a script: the end, where that is all; a talk, if one is asked for; or a line is begun
abbrev pub goes_behind : {A : Type 0} → ConsoleState A → Activity A
goes_behind c = if is_all c then activities.Over else (if c.is_to_talk then activities.Running talk_of else activities.Typing)

abbrev pub Begins : {A : Type 0} → ConsoleState A → ConsoleState A → Type 0
Begins c c' =
    Says c.screen c'.screen
    × (c' ≡ record c { is_to_talk = false; typist = line_of c.typist; screen = c'.screen; activity = goes_behind c })

-- the lines that are meant come first, then a script's
unfoldable pub FindsLine : {A : Type 0} → ConsoleState A → ConsoleState A → Type 0
FindsLine c c' =
    MatchBool (has_some c.lines) (DoesMeant c c') (MatchBool (has_scripted c) (DoesScripted c c') (Begins c c'))

-- ---- a key, and a line that is typed

abbrev pub TakesKey : {A : Type 0} → Option ℕ → ConsoleState A → ConsoleState A → Type 0
TakesKey None c c' = (c.is_over ≡ true) × (c' ≡ record c { activity = activities.Leaving })
TakesKey (Some byte) c c' =
    Says c.screen c'.screen
    × (c' ≡ record c {
      waiting = drop 1 c.waiting;
      typist = (taken byte c.typist).0;
      screen = c'.screen;
      activity = outcome_activity (taken byte c.typist).1;
    })

-- a tick that waits is done, and recorded behind the turns that aren't yet
abbrev pub TicksIn : {A : Type 0} → ℕ → Activity A → ConsoleState A → ConsoleState A → Type 0
TicksIn {A} made activity c c' =
    (answer : Answer A) × CommandStep c.machine Tick answer c'.machine
    × (c' ≡ record c { machine = c'.machine; ticks = c.ticks - 1; journal = c.journal ++ tick_text A made; activity = activity })

-- a line is there that a program has given, or the rest of what it has given
unfoldable pub has_given : Bool → List ℕ → Bool
has_given is_over waiting = is_some (position is_line_feed waiting) || (is_over && has_some waiting)

-- the first line that a program has given is done
abbrev pub DoesGiven : {A : Type 0} → ConsoleState A → ConsoleState A → Type 0
DoesGiven c c' =
    DoesLine (tried_by c.settings) (first_line c.waiting) c.machine c'.activity c'.machine × Says c.screen c'.screen
    × (c' ≡ record c {
      machine = c'.machine;
      waiting = behind_line c.waiting;
      is_scripted = false;
      is_warned = still_warned c.is_warned (first_line c.waiting);
      screen = c'.screen;
      activity = c'.activity;
    })

abbrev pub TakesLine : {A : Type 0} → ConsoleState A → ConsoleState A → Type 0
TakesLine c c' =
    MatchBool (has_given c.is_over c.waiting) (DoesGiven c c') ((c.is_over ≡ true) × (c' ≡ record c { activity = activities.Leaving }))

-- the first key that waits is taken, or the first line of a program; but a tick comes first
unfoldable pub Types : {A : Type 0} → ConsoleState A → ConsoleState A → Type 0
Types c c' =
    MatchBool (nat_lt 0 c.ticks) (TicksIn 0 activities.Typing c c')
    (MatchBool (is_by_person c) (TakesKey (slice_get c.waiting 0) c c') (TakesLine c c'))

-- the word at the cursor is completed by some words that may stand there
unfoldable pub Completes : {A : Type 0} → ConsoleState A → ConsoleState A → Type 0
Completes c c' =
    (words : List (List ℕ)) × CompletedBy words c.typist c'.typist × Says c.screen c'.screen
    × (c' ≡ record c { typist = c'.typist; screen = c'.screen; activity = activities.Typing })

-- a line is done as it stands, or the lines in its place are done next
abbrev pub DoesPhrase : {A : Type 0} → Option (List ℕ) → ExaminedPlace → List ℕ → ConsoleState A → ConsoleState A → Type 0
DoesPhrase None place line c c' =
    DoesLine (tried_by c.settings) line c.machine c'.activity c'.machine × Says c.screen c'.screen
    × (c' ≡ record c {
      machine = c'.machine;
      place = place;
      is_stepping = is_once (kind_of_line line);
      is_scripted = false;
      is_warned = still_warned c.is_warned line;
      screen = c'.screen;
      activity = c'.activity;
    })
DoesPhrase (Some lines) place line c c' = c' ≡ record c { place = place; lines = lines; activity = activities.Free }

abbrev pub ReadsAs : {A : Type 0} → Result (Phrase A) Refusal → List ℕ → ConsoleState A → ConsoleState A → Type 0
ReadsAs (Err refusal) line c c' = c' ≡ record c { is_stepping = false; is_scripted = false; activity = refused (answers.Refused BadLine) }
ReadsAs (Ok phrase) line c c' = DoesPhrase phrase.lines phrase.place line c c'

-- an empty line behind `step` does it once more
abbrev pub steps_again : {A : Type 0} → ConsoleState A → Bool
steps_again c = c.is_stepping && nat_eq (length (verb_of c.typist.editor.line.text)) 0

abbrev pub StepsAgain : {A : Type 0} → ConsoleState A → ConsoleState A → Type 0
StepsAgain c c' =
    Says c.screen c'.screen
    × (c' ≡ record c { is_scripted = false; is_warned = false; screen = c'.screen; activity = run_begun 1 false })

-- the line that was typed is read
unfoldable pub Reads : {A : Type 0} → ConsoleState A → ConsoleState A → Type 0
Reads c c' =
    MatchBool (steps_again c) (StepsAgain c c')
    (ReadsAs (meaning c.place c.typist.editor.line.text) c.typist.editor.line.text c c')

-- ---- a run

-- the end of a run, for another reason than the machine's
abbrev pub stopped_by : {A : Type 0} → StopCause → RunProgress → State → Activity A
stopped_by {A} cause run s =
    activities.Stopped (record { cause = cause; total = run.total; pc = s.processor.registers.pc; is_fresh = run.is_fresh }) (run_text A run.made)

abbrev pub keys_now : {A : Type 0} → ConsoleState A → List ℕ × ℕ
keys_now c = given_keys (is_by_person c) c.waiting (room_of c.machine)

abbrev pub RunsBy : {A : Type 0} → Course → ℕ → RunProgress → ConsoleState A → ConsoleState A → Type 0
RunsBy {A} course.Slices turns run c c' =
    (answer : Answer A)
    × CommandStep c.machine (run_command run.until_idle (slice_turns run (has_some c.waiting) turns)) answer c'.machine
    × (c' ≡ record c { machine = c'.machine; activity = activities.Sliced (at_slice (has_some c.waiting) run) answer })
RunsBy {A} course.Presses turns run c c' =
    c' ≡ record c {
      machine = pressed (keys_now c).0 c.machine;
      waiting = drop (keys_now c).1 c.waiting;
      journal = c.journal ++ keys_text A run.made (keys_now c).0;
      activity = activities.Running (pressed_on run);
    }
RunsBy {A} course.Ticks turns run c c' = TicksIn run.made (activities.Running (pressed_on run)) c c'
RunsBy {A} course.Records turns run c c' =
    c' ≡ record c { journal = c.journal ++ run_text A run.made; activity = activities.Running (recorded_on run) }
RunsBy course.Escapes turns run c c' =
    Says c.screen c'.screen
    × (c' ≡ record c { waiting = behind_escape run.is_talk c.waiting; screen = c'.screen; activity = stopped_by Key run c.machine })
RunsBy course.Hints turns run c c' =
    Says c.screen c'.screen
    × (c' ≡ record c { waiting = without_interrupt c.waiting; screen = c'.screen; activity = activities.Running run })
RunsBy course.Ends turns run c c' = c' ≡ record c { activity = stopped_by End run c.machine }
RunsBy course.Rests turns run c c' = ⊥

abbrev pub course_now : {A : Type 0} → RunProgress → ConsoleState A → Course
course_now run c = course_of run (is_by_person c) c.ticks c.is_over c.waiting (room_of c.machine)

-- a run goes on
unfoldable pub Runs : {A : Type 0} → ℕ → RunProgress → ConsoleState A → ConsoleState A → Type 0
Runs turns run c c' = RunsBy (course_now run c) turns run c c'

-- no key waits, or of a program no line
abbrev pub lacks_keys : {A : Type 0} → ConsoleState A → Bool
lacks_keys c = if is_by_person c then is_none (slice_get c.waiting 0) else not (has_given c.is_over c.waiting)

-- keys do nothing for want of them, or of memory
abbrev pub TypingRests : {A : Type 0} → Want → ConsoleState A → Type 0
TypingRests wants.Keys c = (c.ticks ≡ 0) × (lacks_keys c ≡ true) × (c.is_over ≡ false)
TypingRests wants.Memory c = Unit {0}
TypingRests _ c = ⊥

-- a run does nothing for want of memory, or where the machine idles
abbrev pub RunRests : {A : Type 0} → Want → RunProgress → ConsoleState A → Type 0
RunRests wants.Idle run c = course_now run c ≡ course.Rests
RunRests wants.Memory run c = Unit {0}
RunRests _ run c = ⊥

-- ---- the question whether a file is written over

-- `y` and `Y`
abbrev pub agrees : ℕ → Bool
agrees byte = nat_eq byte 121 || nat_eq byte 89

abbrev pub activity_agreed : {A : Type 0} → Line A → List ℕ → List ℕ → ℕ → Activity A
activity_agreed line image text byte = if agrees byte then activities.Putting line image text true else activities.Free

-- the first key that waits is the answer, and the end of the keyboard is none
abbrev pub AnswersBy : {A : Type 0} → Option ℕ → Line A → List ℕ → List ℕ → ConsoleState A → ConsoleState A → Type 0
AnswersBy None line image text c c' =
    (c.is_over ≡ true) × Says c.screen c'.screen × (c' ≡ record c { screen = c'.screen; activity = activities.Free })
AnswersBy (Some byte) line image text c c' =
    Says c.screen c'.screen
    × (c' ≡ record c { waiting = drop 1 c.waiting; screen = c'.screen; activity = activity_agreed line image text byte })

abbrev pub IsAsking : {A : Type 0} → Activity A → Type 0
IsAsking (activities.Asking line image text) = Unit {0}
IsAsking _ = ⊥

abbrev pub Answers : {A : Type 0} → Activity A → ConsoleState A → ConsoleState A → Type 0
Answers (activities.Asking line image text) c c' = AnswersBy (slice_get c.waiting 0) line image text c c'
Answers _ c c' = ⊥

-- ---- a pack that is taken off

-- a person typed the line and hasn't agreed, and it would lose sectors that no file has, where files may be written
unfoldable pub loses : {A : Type 0} → Bool → ℕ → ConsoleState A → Bool
loses is_agreed drive c =
    not (is_agreed || (c.is_scripted || c.settings.is_saveless)) && loses_sectors c.machine c.saved drive

-- it is asked whether that is so, or the pack is taken off
abbrev pub UnmountsBy : {A : Type 0} → Bool → ℕ → ConsoleState A → ConsoleState A → Type 0
UnmountsBy true drive c c' = Says c.screen c'.screen × (c' ≡ record c { screen = c'.screen; activity = activities.Doubting drive })
UnmountsBy {A} false drive c c' =
    Acts (Unmount drive) (ended {A = A} (lines.Unmount drive)) c.machine c'.activity c'.machine
    × (c' ≡ record c { machine = c'.machine; activity = c'.activity })

abbrev pub Unmounts : {A : Type 0} → Bool → ℕ → ConsoleState A → ConsoleState A → Type 0
Unmounts is_agreed drive c c' = UnmountsBy (loses is_agreed drive c) drive c c'

abbrev pub activity_consented : {A : Type 0} → ℕ → ℕ → Activity A
activity_consented drive byte = if agrees byte then activities.Unmounting drive true else activities.Free

-- the first key that waits is the answer, and the end of the keyboard is none
abbrev pub Consents : {A : Type 0} → Option ℕ → ℕ → ConsoleState A → ConsoleState A → Type 0
Consents None drive c c' = (c.is_over ≡ true) × Says c.screen c'.screen × (c' ≡ record c { screen = c'.screen; activity = activities.Free })
Consents (Some byte) drive c c' =
    Says c.screen c'.screen
    × (c' ≡ record c { waiting = drop 1 c.waiting; screen = c'.screen; activity = activity_consented drive byte })

-- ---- the end

-- It is over if no pack is unsaved, that was told, no file is to be written, or no key comes any more. Else it is told.
abbrev pub LeavesBy : {A : Type 0} → Bool → ConsoleState A → ConsoleState A → Type 0
LeavesBy true c c' = Says c.screen c'.screen × (c' ≡ record c { screen = c'.screen; activity = activities.Over })
LeavesBy false c c' = Says c.screen c'.screen × (c' ≡ record c { is_warned = true; screen = c'.screen; activity = activities.Free })

abbrev pub leaves_at_once : {A : Type 0} → ConsoleState A → Bool
leaves_at_once c = c.is_warned || (c.is_over || c.settings.is_saveless)

unfoldable pub Leaves : {A : Type 0} → ConsoleState A → ConsoleState A → Type 0
Leaves c c' = LeavesBy (leaves_at_once c || not (any_unsaved c.machine c.saved all_drives)) c c'

-- the status of a program that held the dialogue: 1 of a script that is all and can't be had, or is strict and has a line
-- that was refused
unfoldable pub status_of : {A : Type 0} → ConsoleState A → ℕ
status_of c = if is_all c && (c.lacks_script || (c.settings.is_strict && c.has_refused)) then 1 else 0

abbrev pub is_refusal : {A : Type 0} → Answer A → Bool
is_refusal (answers.Refused fault) = true
is_refusal _ = false

-- ---- a step

-- What a step does and brings under way, by what is.
abbrev pub Moves : {A : Type 0} → ℕ → Activity A → ConsoleState A → ConsoleState A → Type 0
Moves turns activities.Free c c' = FindsLine c c'
Moves turns activities.Typing c c' = Types c c'
Moves turns activities.Naming c c' = Completes c c'
Moves turns activities.Entered c c' =
    c' ≡ record c { typist = kept_line c.typist; past = c.past ++ past_of c.typist; activity = activities.Noted }
Moves turns activities.Noted c c' = Reads c c'
Moves turns (activities.Helping topic) c c' = Says c.screen c'.screen × (c' ≡ record c { screen = c'.screen; activity = activities.Free })
Moves turns (activities.Running run) c c' = Runs turns run c c'
Moves turns (activities.Sliced run answer) c c' =
    c' ≡ record c { screen = c.screen ++ typed_in answer; activity = activity_behind run answer }
Moves turns (activities.Stopped stop text) c c' =
    SaysBefore c.screen (stop_text stop) c'.screen
    × (c' ≡ record c { screen = c'.screen; journal = c.journal ++ text; activity = activity_ended stop.cause })
Moves turns (activities.Telling answer text note) c c' =
    Says (c.screen ++ text_of answer) c'.screen
    × (c' ≡ record c {
      has_refused = c.has_refused || (c.is_scripted && is_refusal answer);
      screen = c'.screen;
      journal = c.journal ++ text;
      activity = activities.Free;
    })
Moves turns (activities.Asking line image text) c c' = Answers c.activity c c'
Moves turns (activities.Unmounting drive is_agreed) c c' = Unmounts is_agreed drive c c'
Moves turns (activities.Doubting drive) c c' = Consents (slice_get c.waiting 0) drive c c'
Moves turns activities.Leaving c c' = Leaves c c'
Moves turns _ c c' = ⊥

-- a step may find no memory
abbrev pub takes_memory : {A : Type 0} → Activity A → Bool
takes_memory activities.Free = true
takes_memory activities.Typing = true
takes_memory activities.Entered = true
takes_memory activities.Noted = true
takes_memory (activities.Running run) = true
takes_memory (activities.Sliced run answer) = true
takes_memory (activities.Stopped stop text) = true
takes_memory (activities.Telling answer text note) = true
takes_memory (activities.Unmounting drive is_agreed) = true
takes_memory activities.Leaving = true
takes_memory _ = false

abbrev pub wants_bytes : {A : Type 0} → Activity A → Bool
wants_bytes (activities.Fetching line text) = true
wants_bytes (activities.Opening name) = true
wants_bytes _ = false

abbrev pub has_bytes : {A : Type 0} → Activity A → Bool
has_bytes (activities.Putting line image text is_agreed) = true
has_bytes _ = false

-- it lacks keys for a line, or for an answer
abbrev pub RestsForKeys : {A : Type 0} → Activity A → ConsoleState A → Type 0
RestsForKeys activities.Typing c = TypingRests wants.Keys c
RestsForKeys (activities.Asking line image text) c = (slice_get c.waiting 0 ≡ None) × (c.is_over ≡ false)
RestsForKeys (activities.Doubting drive) c = (slice_get c.waiting 0 ≡ None) × (c.is_over ≡ false)
RestsForKeys _ c = ⊥

-- What it wants of the host where it does nothing.
abbrev pub Rests : {A : Type 0} → Want → ConsoleState A → Type 0
Rests wants.Step c = ⊥
Rests wants.Keys c = RestsForKeys c.activity c
Rests wants.Idle c = (run : RunProgress) × (c.activity ≡ activities.Running run) × (course_now run c ≡ course.Rests)
Rests wants.Memory c = IsTrue (takes_memory c.activity)
Rests wants.Fetch c = IsTrue (wants_bytes c.activity)
Rests wants.Put c = IsTrue (has_bytes c.activity)
Rests wants.Names c = c.activity ≡ activities.Naming
Rests wants.End c = c.activity ≡ activities.Over

-- A step does one thing and wants a further one; or it does nothing.
abbrev pub Steps : {A : Type 0} → ℕ → ConsoleState A → Want → ConsoleState A → Type 0
Steps turns c wants.Step c' = Moves turns c.activity c c'
Steps turns c want c' = Rests want c × (c' ≡ c)
