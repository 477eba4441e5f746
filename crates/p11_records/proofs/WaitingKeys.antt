-- The keys that wait are bytes.
use Rattle.std.proofs.Common.{◌≡◌, ℕ, ◌+◌, ◌≤◌, Bool, true, false, nat_lt, if◌then◌else◌, List, ◌++◌, take, drop, Option, Some, None, Result, Ok, Err, refl, sym, subst, slice_get}
use Rattle.std.specs.Prelude.{position}
use Rattle.std.specs.Bool.{MatchBool}
use Rattle.std.proofs.lemmas.List.Elements.{All-append, All-drop, All-nil, All-take}
use Rattle.p11_lines.specs.declared.line.Line.{Line}
use Rattle.p11_phrases.specs.declared.phrase.Phrase.{Phrase}
use Rattle.p11_phrases.specs.declared.place.ExaminedPlace.{ExaminedPlace}
use Rattle.p11_phrases.specs.declared.refusal.Refusal.{Refusal}
use Rattle.p11_phrases.specs.Phrases.{meaning}
use Rattle.p11_store.specs.declared.store.StoreError.{StoreError}
use Rattle.p11_console.specs.Files.{Gives, GivesScript, Names, Takes, TakesPut}
use Rattle.p11_dialogue.specs.Lines.{behind_at, behind_line, is_line_feed}
use Rattle.p11_dialogue.specs.Runs.{behind_escape, without_interrupt}
use Rattle.p11_console.specs.State.{ConsoleState}
use Rattle.p11_console.specs.Steps.{Answers, AnswersBy, Begins, Completes, Consents, DoesGiven, DoesMeant, DoesPhrase, DoesScripted, FindsLine, Leaves, LeavesBy, Moves, Reads, ReadsAs, Runs, RunsBy, Steps, StepsAgain, TakesKey, TicksIn, Types, UnmountsBy, course_now, has_given, has_scripted, has_some, is_by_person, loses, steps_again}
use Rattle.p11_dialogue.specs.declared.run.Course.{Course}
use Rattle.p11_dialogue.specs.declared.run.Course.TheVariants as course
use Rattle.p11_dialogue.specs.declared.run.RunProgress.{RunProgress}
use Rattle.p11_console.specs.declared.trouble.PutFault.{PutFault}
use Rattle.p11_console.specs.declared.trouble.PutFault.TheVariants as puts
use Rattle.p11_dialogue.specs.declared.want.Want.{Want}
use Rattle.p11_dialogue.specs.declared.want.Want.TheVariants as wants
use Rattle.p11_dialogue.specs.declared.activity.Activity.{Activity}
use Rattle.p11_dialogue.specs.declared.activity.Activity.TheVariants as activities
use Rattle.p11_records.specs.Dialogue as dialogue
use Rattle.p11_records.specs.Dialogue.{Comes, Dialogue, DialoguesDoAgain, Event, Gets, Happen, Happens, HostDoes, Keeps, begun, due, due_now, record_of, session_of, taken_at, typed_at, typed_on}
use Rattle.p11_records.proofs.LinesFit.{AreBytes}

abbrev pub Waits : {A : Type 0} → ConsoleState A → Type 0
Waits c = AreBytes c.waiting

as_before : {A : Type 0} {c c' : ConsoleState A} → c' ≡ c → Waits c → Waits c'
as_before {A} e bytes = subst (λ (x : ConsoleState A). Waits x) (sym e) bytes

dropped : (n : ℕ) (keys : List ℕ) → AreBytes keys → AreBytes (drop n keys)
dropped n keys bytes = All-drop (λ byte. byte ≤ 255) n keys bytes

taken_out : (n m : ℕ) (keys : List ℕ) → AreBytes keys → AreBytes (take n keys ++ drop m keys)
taken_out n m keys bytes = All-append (λ byte. byte ≤ 255) (take n keys) (drop m keys) (All-take (λ byte. byte ≤ 255) n keys bytes) (dropped m keys bytes)

behind_found : (found : Option ℕ) (keys : List ℕ) → AreBytes keys → AreBytes (behind_at found keys)
behind_found None keys bytes = All-nil (λ byte. byte ≤ 255)
behind_found (Some place) keys bytes = dropped (place + 1) keys bytes

behind_first : (keys : List ℕ) → AreBytes keys → AreBytes (behind_line keys)
unfolding behind_line
behind_first keys bytes = behind_found (position is_line_feed keys) keys bytes

either_bytes : (b : Bool) (xs ys : List ℕ) → AreBytes xs → AreBytes ys → AreBytes (if b then xs else ys)
either_bytes true xs ys p q = p
either_bytes false xs ys p q = q

past_escape : (is_talk : Bool) (keys : List ℕ) → AreBytes keys → AreBytes (behind_escape is_talk keys)
unfolding behind_escape
past_escape is_talk keys bytes = either_bytes is_talk _ _ (dropped _ keys bytes) (taken_out _ _ keys bytes)

past_interrupt : (keys : List ℕ) → AreBytes keys → AreBytes (without_interrupt keys)
unfolding without_interrupt
past_interrupt keys bytes = taken_out _ _ keys bytes

finds_bytes : {A : Type 0} (lines script : Bool) (c c' : ConsoleState A) → Waits c → MatchBool lines (DoesMeant c c') (MatchBool script (DoesScripted c c') (Begins c c')) → Waits c'
finds_bytes true script c c' bytes h = as_before h.2 bytes
finds_bytes false true c c' bytes h = as_before h.1 bytes
finds_bytes false false c c' bytes h = as_before h.1 bytes

key_bytes : {A : Type 0} (found : Option ℕ) (c c' : ConsoleState A) → Waits c → TakesKey found c c' → Waits c'
key_bytes None c c' bytes h = as_before h.1 bytes
key_bytes (Some byte) c c' bytes h = as_before h.1 (dropped 1 c.waiting bytes)

types_bytes : {A : Type 0} (ticks person given : Bool) (c c' : ConsoleState A) → Waits c → MatchBool ticks (TicksIn 0 activities.Typing c c') (MatchBool person (TakesKey (slice_get c.waiting 0) c c') (MatchBool given (DoesGiven c c') ((c.is_over ≡ true) × (c' ≡ record c { activity = activities.Leaving })))) → Waits c'
types_bytes true person given c c' bytes h = as_before h.2 bytes
types_bytes false true given c c' bytes h = key_bytes (slice_get c.waiting 0) c c' bytes h
types_bytes false false true c c' bytes h = as_before h.2 (behind_first c.waiting bytes)
types_bytes false false false c c' bytes h = as_before h.1 bytes

phrase_bytes : {A : Type 0} (found : Option (List ℕ)) (place : ExaminedPlace) (line : List ℕ) (c c' : ConsoleState A) → Waits c → DoesPhrase found place line c c' → Waits c'
phrase_bytes None place line c c' bytes h = as_before h.2 bytes
phrase_bytes (Some meant) place line c c' bytes h = as_before h bytes

reads_bytes : {A : Type 0} (again : Bool) (found : Result (Phrase A) Refusal) (line : List ℕ) (c c' : ConsoleState A) → Waits c → MatchBool again (StepsAgain c c') (ReadsAs found line c c') → Waits c'
reads_bytes true found line c c' bytes h = as_before h.1 bytes
reads_bytes false (Err refusal) line c c' bytes h = as_before h bytes
reads_bytes false (Ok phrase) line c c' bytes h = phrase_bytes phrase.lines phrase.place line c c' bytes h

runs_bytes : {A : Type 0} (found : Course) (turns : ℕ) (run : RunProgress) (c c' : ConsoleState A) → Waits c → RunsBy found turns run c c' → Waits c'
runs_bytes course.Slices turns run c c' bytes h = as_before h.2 bytes
runs_bytes course.Presses turns run c c' bytes h = as_before h (dropped _ c.waiting bytes)
runs_bytes course.Ticks turns run c c' bytes h = as_before h.2 bytes
runs_bytes course.Records turns run c c' bytes h = as_before h bytes
runs_bytes course.Escapes turns run c c' bytes h = as_before h.1 (past_escape run.is_talk c.waiting bytes)
runs_bytes course.Hints turns run c c' bytes h = as_before h.1 (past_interrupt c.waiting bytes)
runs_bytes course.Ends turns run c c' bytes h = as_before h bytes
runs_bytes course.Rests turns run c c' bytes h = absurd h

answers_bytes : {A : Type 0} (found : Option ℕ) (line : Line A) (image more : List ℕ) (c c' : ConsoleState A) → Waits c → AnswersBy found line image more c c' → Waits c'
answers_bytes None line image more c c' bytes h = as_before h.2 bytes
answers_bytes (Some byte) line image more c c' bytes h = as_before h.1 (dropped 1 c.waiting bytes)

unmounts_bytes : {A : Type 0} (b : Bool) (drive : ℕ) (c c' : ConsoleState A) → Waits c → UnmountsBy b drive c c' → Waits c'
unmounts_bytes true drive c c' bytes h = as_before h.1 bytes
unmounts_bytes false drive c c' bytes h = as_before h.1 bytes

consents_bytes : {A : Type 0} (found : Option ℕ) (drive : ℕ) (c c' : ConsoleState A) → Waits c → Consents found drive c c' → Waits c'
consents_bytes None drive c c' bytes h = as_before h.2 bytes
consents_bytes (Some byte) drive c c' bytes h = as_before h.1 (dropped 1 c.waiting bytes)

leaves_bytes : {A : Type 0} (b : Bool) (c c' : ConsoleState A) → Waits c → LeavesBy b c c' → Waits c'
leaves_bytes true c c' bytes h = as_before h.1 bytes
leaves_bytes false c c' bytes h = as_before h.1 bytes

moves_bytes : {A : Type 0} (turns : ℕ) (activity : Activity A) (c c' : ConsoleState A) → c.activity ≡ activity → Waits c → Moves turns activity c c' → Waits c'
unfolding FindsLine Types Completes Reads Runs Leaves
moves_bytes turns activities.Free c c' e bytes h = finds_bytes (has_some c.lines) (has_scripted c) c c' bytes h
moves_bytes turns activities.Typing c c' e bytes h = types_bytes (nat_lt 0 c.ticks) (is_by_person c) (has_given c.is_over c.waiting) c c' bytes h
moves_bytes turns activities.Naming c c' e bytes h = as_before h.3 bytes
moves_bytes turns activities.Entered c c' e bytes h = as_before h bytes
moves_bytes turns activities.Noted c c' e bytes h = reads_bytes (steps_again c) (meaning c.place c.typist.editor.line.text) c.typist.editor.line.text c c' bytes h
moves_bytes turns (activities.Helping topic) c c' e bytes h = as_before h.1 bytes
moves_bytes turns (activities.Running run) c c' e bytes h = runs_bytes (course_now run c) turns run c c' bytes h
moves_bytes turns (activities.Sliced run answer) c c' e bytes h = as_before h bytes
moves_bytes turns (activities.Stopped stop more) c c' e bytes h = as_before h.1 bytes
moves_bytes turns (activities.Telling answer more note) c c' e bytes h = as_before h.1 bytes
moves_bytes {A} turns (activities.Asking line image more) c c' e bytes h = answers_bytes (slice_get c.waiting 0) line image more c c' bytes (subst (λ (w : Activity A). Answers w c c') e h)
moves_bytes turns (activities.Unmounting drive is_agreed) c c' e bytes h = unmounts_bytes (loses is_agreed drive c) drive c c' bytes h
moves_bytes turns (activities.Doubting drive) c c' e bytes h = consents_bytes (slice_get c.waiting 0) drive c c' bytes h
moves_bytes turns activities.Leaving c c' e bytes h = leaves_bytes _ c c' bytes h
moves_bytes turns (activities.Fetching line more) c c' e bytes h = absurd h
moves_bytes turns (activities.Putting line image more is_agreed) c c' e bytes h = absurd h
moves_bytes turns (activities.Opening name) c c' e bytes h = absurd h
moves_bytes turns activities.Over c c' e bytes h = absurd h

steps_bytes : {A : Type 0} (turns : ℕ) (want : Want) (c c' : ConsoleState A) → Waits c → Steps turns c want c' → Waits c'
steps_bytes turns wants.Step c c' bytes h = moves_bytes turns c.activity c c' refl bytes h
steps_bytes turns want c c' bytes h = as_before h.1 bytes

script_bytes : {A : Type 0} (file : Result (List ℕ) StoreError) (c c' : ConsoleState A) → Waits c → GivesScript file c c' → Waits c'
script_bytes (Ok given) c c' bytes h = as_before h bytes
script_bytes (Err error) c c' bytes h = as_before h bytes

gives_bytes : {A : Type 0} (file : Result (List ℕ) StoreError) (activity : Activity A) (c c' : ConsoleState A) → Waits c → Gives file activity c c' → Waits c'
gives_bytes file (activities.Fetching line more) c c' bytes h = as_before h.1 bytes
gives_bytes file (activities.Opening name) c c' bytes h = script_bytes file c c' bytes h
gives_bytes file activity c c' bytes h = as_before h bytes

put_bytes : {A : Type 0} (done : Result (Unit {0}) PutFault) (line : Line A) (image more : List ℕ) (c c' : ConsoleState A) → Waits c → TakesPut done line image more c c' → Waits c'
put_bytes (Ok done) line image more c c' bytes h = as_before h bytes
put_bytes (Err puts.There) line image more c c' bytes h = as_before h.1 bytes
put_bytes (Err (puts.Refused reason)) line image more c c' bytes h = as_before h bytes

takes_bytes : {A : Type 0} (done : Result (Unit {0}) PutFault) (activity : Activity A) (c c' : ConsoleState A) → Waits c → Takes done activity c c' → Waits c'
takes_bytes done (activities.Putting line image more is_agreed) c c' bytes h = put_bytes done line image more c c' bytes h
takes_bytes done activity c c' bytes h = as_before h bytes

names_bytes : {A : Type 0} (activity : Activity A) (c c' : ConsoleState A) → Waits c → Names activity c c' → Waits c'
unfolding Completes
names_bytes activities.Naming c c' bytes h = as_before h.3 bytes
names_bytes activity c c' bytes h = as_before h bytes

pub comes_bytes : {A : Type 0} (event : Event A) (c c' : ConsoleState A) → Waits c → Comes event c c' → Waits c'
comes_bytes (dialogue.Stepped turns want) c c' bytes h = steps_bytes turns want c c' bytes h
comes_bytes (dialogue.Fetched file) c c' bytes h = gives_bytes file c.activity c c' bytes h
comes_bytes (dialogue.Written done) c c' bytes h = takes_bytes done c.activity c c' bytes h
comes_bytes dialogue.Named c c' bytes h = names_bytes c.activity c c' bytes h
comes_bytes (dialogue.Keys keys) c c' bytes h = as_before h.1 (All-append (λ byte. byte ≤ 255) c.waiting keys bytes h.0)
comes_bytes dialogue.Redrawn c c' bytes h = as_before h.1 bytes
comes_bytes (dialogue.Opened name) c c' bytes h = as_before h bytes
comes_bytes (dialogue.Recorded count) c c' bytes h = as_before h bytes
comes_bytes dialogue.Ticked c c' bytes h = as_before h bytes
comes_bytes dialogue.Closed c c' bytes h = as_before h bytes
comes_bytes dialogue.Paused c c' bytes h = as_before h bytes
comes_bytes (dialogue.Remembered line) c c' bytes h = as_before h bytes
comes_bytes (dialogue.Shown count) c c' bytes h = as_before h bytes
comes_bytes (dialogue.Kept count) c c' bytes h = as_before h bytes
comes_bytes dialogue.Left c c' bytes h = as_before h bytes
