-- A dialogue: what comes to a console, what its host's files do, and what is recorded and typed in it.
use Rattle.std.specs.Prelude.{◌≡◌, ℕ, ◌+◌, ◌≤◌, min, true, All, List, [], ◌∷◌, ◌++◌, take, drop, Option, Some, None, Result, Ok, Err}
use Rattle.std.specs.List.{flat_map}
use Rattle.p11_lines.specs.declared.answer.Answer.{Answer}
use Rattle.p11_cpu.specs.State.{State}
use Rattle.p11_line_editor.specs.History.{remembered}
use Rattle.p11_panel.specs.Script.{script_lines}
use Rattle.p11_panel.specs.Session.{LineDoes, LinesRun, SessionState, with_store}
use Rattle.p11_store.specs.Store.{StoreState, Fetches, FailsToFetch, Puts, FailsToPut}
use Rattle.p11_store.specs.declared.store.StoreError.{StoreError}
use Rattle.p11_console.specs.Files.{Gives, Names, Takes, image_in, opening, wanted}
use Rattle.p11_dialogue.specs.Record.{run_text}
use Rattle.p11_dialogue.specs.Runs.{typed_in}
use Rattle.p11_dialogue.specs.Said.{Says}
use Rattle.p11_console.specs.State.{ConsoleState, opened}
use Rattle.p11_dialogue.specs.Behind.{activity_behind}
use Rattle.p11_console.specs.Steps.{Steps}
use Rattle.p11_dialogue.specs.Typing.{rested}
use Rattle.p11_dialogue.specs.declared.settings.Settings.{Settings}
use Rattle.p11_console.specs.declared.trouble.PutFault.{PutFault}
use Rattle.p11_console.specs.declared.trouble.PutFault.TheVariants as puts
use Rattle.p11_dialogue.specs.declared.want.Want.{Want}
use Rattle.p11_dialogue.specs.declared.want.Want.TheVariants as wants
use Rattle.p11_dialogue.specs.declared.activity.Activity.{Activity}
use Rattle.p11_dialogue.specs.declared.activity.Activity.TheVariants as activities
use Rattle.p11_records.specs.Again.{Alike}

-- ---- what comes to a console: each call that may change it

-- `Left` is a call that changes nothing of what contracts see: another width of the screen, or one that finds no memory.
pub data Event (A : Type 0) : Type 0 where
  Stepped : ℕ → Want → Event A
  Fetched : Result (List ℕ) StoreError → Event A
  Written : Result (Unit {0}) PutFault → Event A
  Named : Event A
  Opened : List ℕ → Event A
  Keys : List ℕ → Event A
  Ticked : Event A
  Closed : Event A
  Paused : Event A
  Redrawn : Event A
  Remembered : List ℕ → Event A
  Shown : ℕ → Event A
  Recorded : ℕ → Event A
  Kept : ℕ → Event A
  Left : Event A

-- what the call does to the console, as its contract says
abbrev pub Comes : {A : Type 0} → Event A → ConsoleState A → ConsoleState A → Type 0
Comes (Stepped turns want) c c' = Steps turns c want c'
Comes (Fetched file) c c' = Gives file c.activity c c'
Comes (Written done) c c' = Takes done c.activity c c'
Comes Named c c' = Names c.activity c c'
Comes (Opened name) c c' = c' ≡ record c { activity = opening name c.activity }
Comes (Keys bytes) c c' = All (λ byte. byte ≤ 255) bytes × (c' ≡ record c { waiting = c.waiting ++ bytes })
Comes Ticked c c' = c' ≡ record c { ticks = min (c.ticks + 1) 4294967295 }
Comes Closed c c' = c' ≡ record c { is_over = true }
Comes Paused c c' = c' ≡ record c { typist = rested c.typist }
Comes Redrawn c c' = Says c.screen c'.screen × (c' ≡ record c { screen = c'.screen })
Comes (Remembered line) c c' = c' ≡ record c { typist = record c.typist { history = remembered line c.typist.history } }
Comes (Shown count) c c' = c' ≡ record c { screen = drop count c.screen }
Comes (Recorded count) c c' = c' ≡ record c { journal = drop count c.journal }
Comes (Kept count) c c' = c' ≡ record c { past = drop count c.past }
Comes Left c c' = c' ≡ c

-- ---- what the host's files do

-- the file that is wanted is fetched, or isn't had
abbrev pub Gets : Result (List ℕ) StoreError → Option (List ℕ) → StoreState → StoreState → Type 0
Gets (Ok bytes) (Some name) s s' = Fetches s name bytes s'
Gets (Err error) (Some name) s s' = FailsToFetch s name error s'
Gets file None s s' = s' ≡ s

-- The bytes are put under the name; or a file is there, and nothing is done; or they can't be put, and the files stay as
-- they were. What else is left of a file that can't be written no record has.
abbrev pub Keeps : Result (Unit {0}) PutFault → Option (List ℕ) → Option (List ℕ) → StoreState → StoreState → Type 0
Keeps (Ok done) (Some name) (Some image) s s' = Puts s name image s'
Keeps (Err (puts.Refused reason)) (Some name) (Some image) s s' = FailsToPut s name s' × (s'.files ≡ s.files)
Keeps done name image s s' = s' ≡ s

abbrev pub HostDoes : {A : Type 0} → Event A → Activity A → StoreState → StoreState → Type 0
HostDoes (Fetched file) activity s s' = Gets file (wanted activity) s s'
HostDoes (Written done) activity s s' = Keeps done (wanted activity) (image_in activity) s s'
HostDoes event activity s s' = s' ≡ s

-- ---- what is recorded, and typed

-- the bytes of the record that the host takes
abbrev pub taken_at : {A : Type 0} → Event A → List ℕ → List ℕ
taken_at (Recorded count) journal = take count journal
taken_at event journal = []

-- the bytes that the machine has typed in a slice, or in a run that was made at once
abbrev pub typed_on : {A : Type 0} → Activity A → List ℕ
typed_on (activities.Sliced run answer) = typed_in answer
typed_on (activities.Telling answer text note) = typed_in answer
typed_on activity = []

abbrev pub typed_at : {A : Type 0} → Event A → Activity A → List ℕ
typed_at (Stepped turns wants.Step) activity = typed_on activity
typed_at event activity = []

-- What is recorded of a run that is under way, or of what isn't told yet, once that is done.
abbrev pub due_now : {A : Type 0} → Activity A → List ℕ
due_now {A} (activities.Running run) = run_text A run.made
due_now (activities.Stopped stop text) = text
due_now (activities.Telling answer text note) = text
due_now activity = []

abbrev pub due : {A : Type 0} → Activity A → List ℕ
due (activities.Sliced run answer) = due_now (activity_behind run answer)
due activity = due_now activity

-- ---- a dialogue

-- a console, and the files of its host; the bytes of the record that the host has taken, and those that the machine typed
pub record Dialogue (A : Type 0) : Type 0 where
  pub console : ConsoleState A
  pub store : StoreState
  pub taken : List ℕ
  pub typed : List ℕ

abbrev pub begun : {A : Type 0} → State → Settings → StoreState → Dialogue A
begun panel settings store = record { console = opened panel settings; store = store; taken = []; typed = [] }

abbrev pub session_of : {A : Type 0} → Dialogue A → SessionState
session_of d = with_store d.console.machine d.store

-- the whole record
abbrev pub record_of : {A : Type 0} → Dialogue A → List ℕ
record_of d = d.taken ++ d.console.journal ++ due d.console.activity

unfoldable pub Happens : {A : Type 0} → Event A → Dialogue A → Dialogue A → Type 0
Happens event d d' =
    Comes event d.console d'.console × HostDoes event d.console.activity d.store d'.store
    × (d'.taken ≡ d.taken ++ taken_at event d.console.journal)
    × (d'.typed ≡ d.typed ++ typed_at event d'.console.activity)

-- events, one after another
unfoldable pub Happen : {A : Type 0} → List (Event A) → Dialogue A → Dialogue A → Type 0
Happen [] d d' = d' ≡ d
Happen {A} (event ∷ events) d d'' = (d' : Dialogue A) × Happens event d d' × Happen events d' d''

-- The record of a dialogue is a script that does it again: a session over the machine and the files with which it began can
-- do its lines so that they type the same bytes, and come to the same machine and files, whatever comes to the console. No
-- typed character waits as it begins.
abbrev pub DialoguesDoAgain : Type 0 → Type 0
DialoguesDoAgain A =
    (panel : State) (settings : Settings) (store : StoreState) (events : List (Event A)) (d : Dialogue A) (t : SessionState)
    → panel.bus.typed ≡ [] → Happen events (begun panel settings store) d → Alike (with_store panel store) t
    → (answers : List (Answer A)) × (t' : SessionState)
    × LinesRun (LineDoes {A = A}) (script_lines (record_of d)) t answers t' × Alike (session_of d) t'
    × (flat_map typed_in answers ≡ d.typed)
