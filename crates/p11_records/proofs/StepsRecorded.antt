-- A step of a console: what is recorded and due does again what was done.
use Rattle.std.proofs.Common.{◌≡◌, ℕ, Bool, true, false, nat_lt, if◌then◌else◌, List, [], ◌++◌, append_assoc, Option, Some, None, Result, Ok, Err, refl, sym, subst, slice_get}
use Rattle.std.specs.Bool.{MatchBool}
use Rattle.p11_lines.specs.declared.answer.Answer.{Answer}
use Rattle.p11_lines.specs.declared.answer.Answer.TheVariants as answers
use Rattle.p11_lines.specs.declared.answer.StopReason.{StopReason}
use Rattle.p11_lines.specs.declared.fault.Fault.TheVariants.{BadLine}
use Rattle.p11_lines.specs.declared.line.Line.{Line}
use Rattle.p11_lines.specs.declared.line.Line.TheVariants as lines
use Rattle.p11_lines.specs.Calls.LineText.{FitsGrammar}
use Rattle.p11_line_editor.specs.declared.outcome.Outcome.{Outcome}
use Rattle.p11_line_editor.specs.declared.outcome.Outcome.TheVariants as outcomes
use Rattle.p11_phrases.specs.declared.phrase.Phrase.{Phrase}
use Rattle.p11_phrases.specs.declared.place.ExaminedPlace.{ExaminedPlace}
use Rattle.p11_phrases.specs.declared.refusal.Refusal.{Refusal}
use Rattle.p11_phrases.specs.Phrases.{meaning}
use Rattle.p11_cpu.specs.State.{State}
use Rattle.p11_cpu.specs.OperatorDevices.{room_of}
use Rattle.p11_panel.specs.declared.command.Command.TheVariants as commands
use Rattle.p11_panel.specs.Commands.{CommandStep}
use Rattle.p11_panel.specs.Keys.{pressed}
use Rattle.p11_panel.specs.Session.{SessionState, with_store}
use Rattle.p11_store.specs.Store.{StoreState}
use Rattle.p11_dialogue.specs.Lines.{first_line}
use Rattle.p11_dialogue.specs.Manner.{tried_by}
use Rattle.p11_dialogue.specs.Record.{ended, keys_text, run_text, tick_text}
use Rattle.p11_dialogue.specs.Runs.{goes_on, next_run, pressed_on, recorded_on, slice_turns, talk_of, typed_in}
use Rattle.p11_console.specs.State.{ConsoleState}
use Rattle.p11_dialogue.specs.Behind.{activity_behind, activity_ended, activity_stopped}
use Rattle.p11_console.specs.Steps.{Answers, AnswersBy, Begins, Completes, Consents, DoesGiven, DoesMeant, DoesPhrase, DoesScripted, FindsLine, Leaves, LeavesBy, Moves, Reads, ReadsAs, Runs, RunsBy, StepsAgain, TakesKey, TakesLine, TicksIn, Types, UnmountsBy, agrees, course_now, has_given, has_scripted, has_some, is_all, is_by_person, keys_now, loses, steps_again}
use Rattle.p11_dialogue.specs.Typing.{outcome_activity}
use Rattle.p11_dialogue.specs.declared.run.Course.{Course}
use Rattle.p11_dialogue.specs.declared.run.Course.TheVariants as course
use Rattle.p11_dialogue.specs.declared.run.RunProgress.{RunProgress}
use Rattle.p11_dialogue.specs.declared.stop.StopCause.{StopCause}
use Rattle.p11_dialogue.specs.declared.stop.StopCause.TheVariants as causes
use Rattle.p11_dialogue.specs.declared.stop.Stop.{Stop}
use Rattle.p11_dialogue.specs.declared.activity.Activity.{Activity}
use Rattle.p11_dialogue.specs.declared.activity.Activity.TheVariants as activities
use Rattle.p11_records.proofs.KeysGiven.{some_given}
use Rattle.p11_records.proofs.LinesRecorded.{Brings, begun_holds, line_done, takes_off, talk_holds, text_tried}
use Rattle.p11_records.proofs.RecordLemmas.{Again}
use Rattle.p11_records.proofs.RunsRecorded.{keyed, keys_leave_none, not_full, slice_holds, tick_leaves_none, ticked, within}
use Rattle.p11_records.proofs.UnderWay.{Going, Holds, IsSaving, Now, Open, Stands, closes, goes, is_plain_activity, opens, plain_holds, run_holds, told_holds}
use Rattle.p11_records.proofs.UnderWay.{more_none}
use Rattle.p11_records.proofs.WaitingKeys.{Waits}

-- of a console, with the bytes of its record that were taken, those that were typed, and the files
abbrev pub Held : {A : Type 0} → ConsoleState A → List ℕ → List ℕ → StoreState → SessionState → Type 0
Held c taken typed store t = Holds c.activity (taken ++ c.journal) typed c.machine store t

-- once a step has brought something under way
abbrev pub Brought : {A : Type 0} → ConsoleState A → List ℕ → List ℕ → StoreState → SessionState → Type 0
Brought c taken typed store t = Brings c.activity (taken ++ c.journal) typed c.machine store t

moved : {A : Type 0} {c c' : ConsoleState A} (taken typed : List ℕ) (store : StoreState) (t : SessionState) → c' ≡ c → Brought c taken typed store t → Brought c' taken typed store t
moved {A} taken typed store t e h = subst (λ (x : ConsoleState A). Brought x taken typed store t) (sym e) h

plainly : {A : Type 0} {c c' : ConsoleState A} (taken typed : List ℕ) (store : StoreState) (t : SessionState) → c' ≡ c → is_plain_activity c.activity ≡ true → c.machine.bus.typed ≡ [] → Again A (taken ++ c.journal) typed (with_store c.machine store) t → Brought c' taken typed store t
plainly {A} {c} {c'} taken typed store t e plain clean done = moved taken typed store t e (plain_holds c.activity (taken ++ c.journal) typed c.machine store t plain clean done)

regroup : (A : Type 0) (taken journal more typed : List ℕ) (s t : SessionState) → Again A ((taken ++ journal) ++ more) typed s t → Again A (taken ++ (journal ++ more)) typed s t
regroup A taken journal more typed s t done = subst (λ (x : List ℕ). Again A x typed s t) (append_assoc taken journal more) done

-- THE NEXT LINE

meant : {A : Type 0} (c c' : ConsoleState A) (taken typed : List ℕ) (store : StoreState) (t : SessionState) → c.machine.bus.typed ≡ [] → Again A (taken ++ c.journal) typed (with_store c.machine store) t → DoesMeant c c' → Brought c' taken typed store t
meant c c' taken typed store t clean done h =
    moved taken typed store t h.2 (line_done (tried_by c.settings) (first_line c.lines) c'.activity (taken ++ c.journal) typed c.machine c'.machine store t clean done h.0)

scripted : {A : Type 0} (c c' : ConsoleState A) (taken typed : List ℕ) (store : StoreState) (t : SessionState) → c.machine.bus.typed ≡ [] → Again A (taken ++ c.journal) typed (with_store c.machine store) t → DoesScripted c c' → Brought c' taken typed store t
scripted c c' taken typed store t clean done h =
    moved taken typed store t h.1 (text_tried (tried_by c.settings) (first_line c.script) c'.activity (taken ++ c.journal) typed c.machine c'.machine store t clean done h.0)

goes_to : {A : Type 0} (all talk : Bool) (text typed : List ℕ) (machine : State) (store : StoreState) (t : SessionState) → machine.bus.typed ≡ [] → Again A text typed (with_store machine store) t → Brings {A = A} (if all then activities.Over else (if talk then activities.Running talk_of else activities.Typing)) text typed machine store t
goes_to {A} true talk text typed machine store t clean done = plain_holds {A = A} activities.Over text typed machine store t refl clean done
goes_to {A} false true text typed machine store t clean done = talk_holds {A = A} text typed machine store t clean done
goes_to {A} false false text typed machine store t clean done = plain_holds {A = A} activities.Typing text typed machine store t refl clean done

begins : {A : Type 0} (c c' : ConsoleState A) (taken typed : List ℕ) (store : StoreState) (t : SessionState) → c.machine.bus.typed ≡ [] → Again A (taken ++ c.journal) typed (with_store c.machine store) t → Begins c c' → Brought c' taken typed store t
begins {A} c c' taken typed store t clean done h =
    moved taken typed store t h.1 (goes_to {A = A} (is_all c) c.is_to_talk (taken ++ c.journal) typed c.machine store t clean done)

behind_lines : {A : Type 0} (b : Bool) (c c' : ConsoleState A) (taken typed : List ℕ) (store : StoreState) (t : SessionState) → c.machine.bus.typed ≡ [] → Again A (taken ++ c.journal) typed (with_store c.machine store) t → MatchBool b (DoesScripted c c') (Begins c c') → Brought c' taken typed store t
behind_lines true c c' taken typed store t clean done h = scripted c c' taken typed store t clean done h
behind_lines false c c' taken typed store t clean done h = begins c c' taken typed store t clean done h

next_line : {A : Type 0} (b : Bool) (c c' : ConsoleState A) (taken typed : List ℕ) (store : StoreState) (t : SessionState) → c.machine.bus.typed ≡ [] → Again A (taken ++ c.journal) typed (with_store c.machine store) t → MatchBool b (DoesMeant c c') (MatchBool (has_scripted c) (DoesScripted c c') (Begins c c')) → Brought c' taken typed store t
next_line true c c' taken typed store t clean done h = meant c c' taken typed store t clean done h
next_line false c c' taken typed store t clean done h = behind_lines (has_scripted c) c c' taken typed store t clean done h

finds : {A : Type 0} (c c' : ConsoleState A) (taken typed : List ℕ) (store : StoreState) (t : SessionState) → c.machine.bus.typed ≡ [] → Again A (taken ++ c.journal) typed (with_store c.machine store) t → FindsLine c c' → Brought c' taken typed store t
unfolding FindsLine
finds c c' taken typed store t clean done h = next_line (has_some c.lines) c c' taken typed store t clean done h

-- A KEY, AND A LINE THAT IS TYPED

tick_text_is : {A : Type 0} (c c' : ConsoleState A) (made : ℕ) (taken typed : List ℕ) (store : StoreState) (t : SessionState) → Open A (taken ++ c.journal) typed made c.machine store t → (answer : Answer A) → CommandStep c.machine commands.Tick answer c'.machine → Again A (taken ++ (c.journal ++ tick_text A made)) typed (with_store c'.machine store) t
tick_text_is {A} c c' made taken typed store t open_run answer step =
    regroup A taken c.journal (tick_text A made) typed (with_store c'.machine store) t (ticked (taken ++ c.journal) typed made answer c.machine c'.machine store t open_run step)

ticks_typing : {A : Type 0} (c c' : ConsoleState A) (taken typed : List ℕ) (store : StoreState) (t : SessionState) → c.machine.bus.typed ≡ [] → Again A (taken ++ c.journal) typed (with_store c.machine store) t → TicksIn 0 activities.Typing c c' → Brought c' taken typed store t
ticks_typing {A} c c' taken typed store t clean done h =
    plainly taken typed store t h.2 refl (tick_leaves_none h.0 c.machine c'.machine clean h.1)
    (tick_text_is c c' 0 taken typed store t (opens A (taken ++ c.journal) typed c.machine store t clean done) h.0 h.1)

ticks_running : {A : Type 0} (run : RunProgress) (c c' : ConsoleState A) (taken typed : List ℕ) (store : StoreState) (t : SessionState) → c.machine.bus.typed ≡ [] → Going A (taken ++ c.journal) typed run.made c.machine store t → TicksIn run.made (activities.Running (pressed_on run)) c c' → Brought c' taken typed store t
ticks_running {A} run c c' taken typed store t clean going h =
    let clear = tick_leaves_none h.0 c.machine c'.machine clean h.1 in
    moved taken typed store t h.2
    (run_holds {A = A} (pressed_on run) (taken ++ (c.journal ++ tick_text A run.made)) typed c'.machine store t clear
    (goes A (taken ++ (c.journal ++ tick_text A run.made)) typed c'.machine store t clear (tick_text_is c c' run.made taken typed store t going.so_far h.0 h.1)))

outcome_plain : (A : Type 0) (found : Option Outcome) → is_plain_activity (outcome_activity {A = A} found) ≡ true
outcome_plain A None = refl
outcome_plain A (Some outcomes.Done) = refl
outcome_plain A (Some outcomes.Complete) = refl
outcome_plain A (Some outcomes.Ended) = refl
outcome_plain A (Some outcome) = refl

takes_key : {A : Type 0} (found : Option ℕ) (c c' : ConsoleState A) (taken typed : List ℕ) (store : StoreState) (t : SessionState) → c.machine.bus.typed ≡ [] → Again A (taken ++ c.journal) typed (with_store c.machine store) t → TakesKey found c c' → Brought c' taken typed store t
takes_key None c c' taken typed store t clean done h = plainly taken typed store t h.1 refl clean done
takes_key {A} (Some byte) c c' taken typed store t clean done h = plainly taken typed store t h.1 (outcome_plain A _) clean done

takes_line : {A : Type 0} (b : Bool) (c c' : ConsoleState A) (taken typed : List ℕ) (store : StoreState) (t : SessionState) → c.machine.bus.typed ≡ [] → Again A (taken ++ c.journal) typed (with_store c.machine store) t → MatchBool b (DoesGiven c c') ((c.is_over ≡ true) × (c' ≡ record c { activity = activities.Leaving })) → Brought c' taken typed store t
takes_line true c c' taken typed store t clean done h =
    moved taken typed store t h.2 (line_done (tried_by c.settings) (first_line c.waiting) c'.activity (taken ++ c.journal) typed c.machine c'.machine store t clean done h.0)
takes_line false c c' taken typed store t clean done h = plainly taken typed store t h.1 refl clean done

by_manner : {A : Type 0} (b : Bool) (c c' : ConsoleState A) (taken typed : List ℕ) (store : StoreState) (t : SessionState) → c.machine.bus.typed ≡ [] → Again A (taken ++ c.journal) typed (with_store c.machine store) t → MatchBool b (TakesKey (slice_get c.waiting 0) c c') (TakesLine c c') → Brought c' taken typed store t
by_manner true c c' taken typed store t clean done h = takes_key (slice_get c.waiting 0) c c' taken typed store t clean done h
by_manner false c c' taken typed store t clean done h = takes_line (has_given c.is_over c.waiting) c c' taken typed store t clean done h

ticks_or : {A : Type 0} (b : Bool) (c c' : ConsoleState A) (taken typed : List ℕ) (store : StoreState) (t : SessionState) → c.machine.bus.typed ≡ [] → Again A (taken ++ c.journal) typed (with_store c.machine store) t → MatchBool b (TicksIn 0 activities.Typing c c') (MatchBool (is_by_person c) (TakesKey (slice_get c.waiting 0) c c') (TakesLine c c')) → Brought c' taken typed store t
ticks_or true c c' taken typed store t clean done h = ticks_typing c c' taken typed store t clean done h
ticks_or false c c' taken typed store t clean done h = by_manner (is_by_person c) c c' taken typed store t clean done h

types : {A : Type 0} (c c' : ConsoleState A) (taken typed : List ℕ) (store : StoreState) (t : SessionState) → c.machine.bus.typed ≡ [] → Again A (taken ++ c.journal) typed (with_store c.machine store) t → Types c c' → Brought c' taken typed store t
unfolding Types
types c c' taken typed store t clean done h = ticks_or (nat_lt 0 c.ticks) c c' taken typed store t clean done h

completes : {A : Type 0} (c c' : ConsoleState A) (taken typed : List ℕ) (store : StoreState) (t : SessionState) → c.machine.bus.typed ≡ [] → Again A (taken ++ c.journal) typed (with_store c.machine store) t → Completes c c' → Brought c' taken typed store t
unfolding Completes
completes c c' taken typed store t clean done h = plainly taken typed store t h.3 refl clean done

phrase_done : {A : Type 0} (found : Option (List ℕ)) (place : ExaminedPlace) (line : List ℕ) (c c' : ConsoleState A) (taken typed : List ℕ) (store : StoreState) (t : SessionState) → c.machine.bus.typed ≡ [] → Again A (taken ++ c.journal) typed (with_store c.machine store) t → DoesPhrase found place line c c' → Brought c' taken typed store t
phrase_done None place line c c' taken typed store t clean done h =
    moved taken typed store t h.2 (line_done (tried_by c.settings) line c'.activity (taken ++ c.journal) typed c.machine c'.machine store t clean done h.0)
phrase_done (Some meant) place line c c' taken typed store t clean done h = plainly taken typed store t h refl clean done

reads_as : {A : Type 0} (found : Result (Phrase A) Refusal) (line : List ℕ) (c c' : ConsoleState A) (taken typed : List ℕ) (store : StoreState) (t : SessionState) → c.machine.bus.typed ≡ [] → Again A (taken ++ c.journal) typed (with_store c.machine store) t → ReadsAs found line c c' → Brought c' taken typed store t
unfolding typed_in
reads_as {A} (Err refusal) line c c' taken typed store t clean done h = moved taken typed store t h (told_holds {A = A} BadLine (taken ++ c.journal) typed c.machine store t clean done)
reads_as (Ok phrase) line c c' taken typed store t clean done h = phrase_done phrase.lines phrase.place line c c' taken typed store t clean done h

again_or : {A : Type 0} (b : Bool) (found : Result (Phrase A) Refusal) (line : List ℕ) (c c' : ConsoleState A) (taken typed : List ℕ) (store : StoreState) (t : SessionState) → c.machine.bus.typed ≡ [] → Again A (taken ++ c.journal) typed (with_store c.machine store) t → MatchBool b (StepsAgain c c') (ReadsAs found line c c') → Brought c' taken typed store t
again_or {A} true found line c c' taken typed store t clean done h = moved taken typed store t h.1 (begun_holds {A = A} 1 false (taken ++ c.journal) typed c.machine store t clean done)
again_or false found line c c' taken typed store t clean done h = reads_as found line c c' taken typed store t clean done h

reads : {A : Type 0} (c c' : ConsoleState A) (taken typed : List ℕ) (store : StoreState) (t : SessionState) → c.machine.bus.typed ≡ [] → Again A (taken ++ c.journal) typed (with_store c.machine store) t → Reads c c' → Brought c' taken typed store t
unfolding Reads
reads c c' taken typed store t clean done h = again_or (steps_again c) (meaning c.place c.typist.editor.line.text) c.typist.editor.line.text c c' taken typed store t clean done h

-- A RUN

stops : {A : Type 0} (stop : Stop) (run : RunProgress) (text typed : List ℕ) (machine : State) (store : StoreState) (t : SessionState) → machine.bus.typed ≡ [] → Going A text typed run.made machine store t → Holds {A = A} (activities.Stopped stop (run_text A run.made)) text (typed ++ []) machine store t
stops {A} stop run text typed machine store t clean going =
    record { clean = clean; stands = more_none A (text ++ run_text A run.made) typed (with_store machine store) t (closes A text typed run.made machine store t going.so_far) }

runs_by : {A : Type 0} (found : Course) (turns : ℕ) (run : RunProgress) (c c' : ConsoleState A) (taken typed : List ℕ) (store : StoreState) (t : SessionState) → course_now run c ≡ found → Waits c → c.machine.bus.typed ≡ [] → Going A (taken ++ c.journal) typed run.made c.machine store t → RunsBy found turns run c c' → Brought c' taken typed store t
runs_by {A} course.Slices turns run c c' taken typed store t e bytes clean going h =
    let few = within run (has_some c.waiting) turns (not_full run (is_by_person c) c.ticks c.is_over c.waiting (room_of c.machine) e) in
    moved taken typed store t h.2
    (slice_holds A (taken ++ c.journal) typed run c.machine c'.machine store t (slice_turns run (has_some c.waiting) turns) clean going few (has_some c.waiting) h.0 h.1)
runs_by {A} course.Presses turns run c c' taken typed store t e bytes clean going h =
    let given = (keys_now c).0 in
    let machine = pressed given c.machine in
    let text = taken ++ (c.journal ++ keys_text A run.made given) in
    let clear = keys_leave_none given c.machine clean in
    moved taken typed store t h
    (run_holds {A = A} (pressed_on run) text typed machine store t clear
    (goes A text typed machine store t clear
    (regroup A taken c.journal (keys_text A run.made given) typed (with_store machine store) t
    (keyed {A = A} (taken ++ c.journal) typed run.made (is_by_person c) c.waiting c.machine store t (some_given run (is_by_person c) c.ticks c.is_over c.waiting (room_of c.machine) e) bytes going.so_far))))
runs_by course.Ticks turns run c c' taken typed store t e bytes clean going h = ticks_running run c c' taken typed store t clean going h
runs_by {A} course.Records turns run c c' taken typed store t e bytes clean going h =
    moved taken typed store t h
    (run_holds {A = A} (recorded_on run) (taken ++ (c.journal ++ run_text A run.made)) typed c.machine store t clean
    (goes A (taken ++ (c.journal ++ run_text A run.made)) typed c.machine store t clean
    (regroup A taken c.journal (run_text A run.made) typed (with_store c.machine store) t (closes A (taken ++ c.journal) typed run.made c.machine store t going.so_far))))
runs_by course.Escapes turns run c c' taken typed store t e bytes clean going h = moved taken typed store t h.1 (stops _ run (taken ++ c.journal) typed c.machine store t clean going)
runs_by {A} course.Hints turns run c c' taken typed store t e bytes clean going h = moved taken typed store t h.1 (run_holds {A = A} run (taken ++ c.journal) typed c.machine store t clean going)
runs_by course.Ends turns run c c' taken typed store t e bytes clean going h = moved taken typed store t h (stops _ run (taken ++ c.journal) typed c.machine store t clean going)
runs_by course.Rests turns run c c' taken typed store t e bytes clean going h = absurd h

runs : {A : Type 0} (turns : ℕ) (run : RunProgress) (c c' : ConsoleState A) (taken typed : List ℕ) (store : StoreState) (t : SessionState) → Waits c → c.machine.bus.typed ≡ [] → Going A (taken ++ c.journal) typed run.made c.machine store t → Runs turns run c c' → Brought c' taken typed store t
unfolding Runs
runs turns run c c' taken typed store t bytes clean going h = runs_by (course_now run c) turns run c c' taken typed store t refl bytes clean going h

-- what comes behind a slice
behind_stop : {A : Type 0} (is_going : Bool) (run : RunProgress) (reason : StopReason) (pc : ℕ) (text typed : List ℕ) (machine : State) (store : StoreState) (t : SessionState) → machine.bus.typed ≡ [] → Now (activity_stopped {A = A} is_going run reason pc) text typed machine store t → Brings (activity_stopped {A = A} is_going run reason pc) text typed machine store t
unfolding activity_stopped
behind_stop {A} true run reason pc text typed machine store t clean h = run_holds {A = A} run text typed machine store t clean h
behind_stop {A} false run reason pc text typed machine store t clean h = record { clean = clean; stands = more_none A (text ++ run_text A run.made) typed (with_store machine store) t h }

behind_slice : {A : Type 0} (run : RunProgress) (answer : Answer A) (text typed : List ℕ) (machine : State) (store : StoreState) (t : SessionState) → machine.bus.typed ≡ [] → Now (activity_behind run answer) text typed machine store t → Brings (activity_behind run answer) text typed machine store t
unfolding activity_behind typed_in
behind_slice {A} run (answers.Stop more reason turns pc) text typed machine store t clean h = behind_stop {A = A} (goes_on run reason turns) (next_run run more reason turns) reason pc text typed machine store t clean h
behind_slice {A} run (answers.Refused fault) text typed machine store t clean h = record { clean = clean; stands = more_none A (text ++ run_text A run.made) typed (with_store machine store) t h }
behind_slice {A} run answer text typed machine store t clean h = plain_holds {A = A} activities.Free text typed machine store t refl clean h

-- QUESTIONS AND THE END

ended_plain : (A : Type 0) (cause : StopCause) → is_plain_activity (activity_ended {A = A} cause) ≡ true
ended_plain A (causes.Reason reason) = refl
ended_plain A causes.Key = refl
ended_plain A causes.End = refl

agreed : {A : Type 0} (b : Bool) (line : Line A) (image more text typed : List ℕ) (machine : State) (store : StoreState) (t : SessionState) → machine.bus.typed ≡ [] → Again A text typed (with_store machine store) t → more ≡ ended line → IsSaving line image machine → FitsGrammar line → Brings (if b then activities.Putting line image more true else activities.Free) text typed machine store t
agreed {A} true line image more text typed machine store t clean done e saving fits = record { clean = clean; stands = (more_none A text typed (with_store machine store) t done, e, saving, fits) }
agreed false line image more text typed machine store t clean done e saving fits = plain_holds activities.Free text typed machine store t refl clean done

answered_by : {A : Type 0} (found : Option ℕ) (line : Line A) (image more : List ℕ) (c c' : ConsoleState A) (taken typed : List ℕ) (store : StoreState) (t : SessionState) → c.machine.bus.typed ≡ [] → Again A (taken ++ c.journal) typed (with_store c.machine store) t → more ≡ ended line → IsSaving line image c.machine → FitsGrammar line → AnswersBy found line image more c c' → Brought c' taken typed store t
answered_by None line image more c c' taken typed store t clean done e saving fits h = plainly taken typed store t h.2 refl clean done
answered_by (Some byte) line image more c c' taken typed store t clean done e saving fits h =
    moved taken typed store t h.1 (agreed (agrees byte) line image more (taken ++ c.journal) typed c.machine store t clean done e saving fits)

unmounts_by : {A : Type 0} (b : Bool) (drive : ℕ) (c c' : ConsoleState A) (taken typed : List ℕ) (store : StoreState) (t : SessionState) → c.machine.bus.typed ≡ [] → Again A (taken ++ c.journal) typed (with_store c.machine store) t → FitsGrammar {A = A} (lines.Unmount drive) → UnmountsBy b drive c c' → Brought c' taken typed store t
unmounts_by {A} true drive c c' taken typed store t clean done fits h =
    moved taken typed store t h.1 (record { clean = clean; stands = (more_none A (taken ++ c.journal) typed (with_store c.machine store) t done, fits) })
unmounts_by {A} false drive c c' taken typed store t clean done fits h =
    moved taken typed store t h.1 (takes_off {A = A} drive c'.activity (taken ++ c.journal) typed c.machine c'.machine store t fits clean done h.0)

consented : {A : Type 0} (b : Bool) (drive : ℕ) (text typed : List ℕ) (machine : State) (store : StoreState) (t : SessionState) → machine.bus.typed ≡ [] → Again A text typed (with_store machine store) t → FitsGrammar {A = A} (lines.Unmount drive) → Brings {A = A} (if b then activities.Unmounting drive true else activities.Free) text typed machine store t
consented {A} true drive text typed machine store t clean done fits = record { clean = clean; stands = (more_none A text typed (with_store machine store) t done, fits) }
consented {A} false drive text typed machine store t clean done fits = plain_holds {A = A} activities.Free text typed machine store t refl clean done

consents_by : {A : Type 0} (found : Option ℕ) (drive : ℕ) (c c' : ConsoleState A) (taken typed : List ℕ) (store : StoreState) (t : SessionState) → c.machine.bus.typed ≡ [] → Again A (taken ++ c.journal) typed (with_store c.machine store) t → FitsGrammar {A = A} (lines.Unmount drive) → Consents found drive c c' → Brought c' taken typed store t
consents_by None drive c c' taken typed store t clean done fits h = plainly taken typed store t h.2 refl clean done
consents_by {A} (Some byte) drive c c' taken typed store t clean done fits h =
    moved taken typed store t h.1 (consented {A = A} (agrees byte) drive (taken ++ c.journal) typed c.machine store t clean done fits)

leaves_by : {A : Type 0} (b : Bool) (c c' : ConsoleState A) (taken typed : List ℕ) (store : StoreState) (t : SessionState) → c.machine.bus.typed ≡ [] → Again A (taken ++ c.journal) typed (with_store c.machine store) t → LeavesBy b c c' → Brought c' taken typed store t
leaves_by true c c' taken typed store t clean done h = plainly taken typed store t h.1 refl clean done
leaves_by false c c' taken typed store t clean done h = plainly taken typed store t h.1 refl clean done

leaves : {A : Type 0} (c c' : ConsoleState A) (taken typed : List ℕ) (store : StoreState) (t : SessionState) → c.machine.bus.typed ≡ [] → Again A (taken ++ c.journal) typed (with_store c.machine store) t → Leaves c c' → Brought c' taken typed store t
unfolding Leaves
leaves c c' taken typed store t clean done h = leaves_by _ c c' taken typed store t clean done h

-- A STEP

pub moves : {A : Type 0} (turns : ℕ) (activity : Activity A) (c c' : ConsoleState A) (taken typed : List ℕ) (store : StoreState) (t : SessionState) → c.activity ≡ activity → Waits c → c.machine.bus.typed ≡ [] → Stands activity (taken ++ c.journal) typed c.machine store t → Moves turns activity c c' → Brought c' taken typed store t
moves turns activities.Free c c' taken typed store t e bytes clean done h = finds c c' taken typed store t clean done h
moves turns activities.Typing c c' taken typed store t e bytes clean done h = types c c' taken typed store t clean done h
moves turns activities.Naming c c' taken typed store t e bytes clean done h = completes c c' taken typed store t clean done h
moves turns activities.Entered c c' taken typed store t e bytes clean done h = plainly taken typed store t h refl clean done
moves turns activities.Noted c c' taken typed store t e bytes clean done h = reads c c' taken typed store t clean done h
moves turns (activities.Helping topic) c c' taken typed store t e bytes clean done h = plainly taken typed store t h.1 refl clean done
moves turns (activities.Running run) c c' taken typed store t e bytes clean going h = runs turns run c c' taken typed store t bytes clean going h
moves turns (activities.Sliced run answer) c c' taken typed store t e bytes clean done h =
    moved taken typed store t h (behind_slice run answer (taken ++ c.journal) typed c.machine store t clean done)
moves {A} turns (activities.Stopped stop more) c c' taken typed store t e bytes clean done h =
    plainly taken typed store t h.1 (ended_plain A stop.cause) clean (regroup A taken c.journal more typed (with_store c.machine store) t done)
moves {A} turns (activities.Telling answer more note) c c' taken typed store t e bytes clean done h =
    plainly taken typed store t h.1 refl clean (regroup A taken c.journal more typed (with_store c.machine store) t done)
moves {A} turns (activities.Asking line image more) c c' taken typed store t e bytes clean done h =
    answered_by (slice_get c.waiting 0) line image more c c' taken typed store t clean done.0 done.1 done.2 done.3 (subst (λ (w : Activity A). Answers w c c') e h)
moves turns (activities.Unmounting drive is_agreed) c c' taken typed store t e bytes clean done h = unmounts_by (loses is_agreed drive c) drive c c' taken typed store t clean done.0 done.1 h
moves turns (activities.Doubting drive) c c' taken typed store t e bytes clean done h = consents_by (slice_get c.waiting 0) drive c c' taken typed store t clean done.0 done.1 h
moves turns activities.Leaving c c' taken typed store t e bytes clean done h = leaves c c' taken typed store t clean done h
moves turns (activities.Fetching line more) c c' taken typed store t e bytes clean done h = absurd h
moves turns (activities.Putting line image more is_agreed) c c' taken typed store t e bytes clean done h = absurd h
moves turns (activities.Opening name) c c' taken typed store t e bytes clean done h = absurd h
moves turns activities.Over c c' taken typed store t e bytes clean done h = absurd h
