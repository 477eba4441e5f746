-- What a call does with a console that a handle holds.
use Rattle.std.specs.Prelude.{ℤ, ◌≡◌, ◌<◌, ◌≤◌, ◌⊎◌, ℕ, Bool, true, false, ◌&&◌, nat_eq, nat_le, min, List, ◌++◌, length, take, drop, Option, None, Some, Result, Ok, Err, MatchOption, if◌then◌else◌}
use Rattle.std.specs.Global.{Global}
use Rattle.p11_lines.specs.AnswerText.{text_of}
use Rattle.p11_lines.specs.declared.answer.Answer.TheVariants as answers
use Rattle.p11_cpu.specs.Operator.{new_machine}
use Rattle.p11_cpu.specs.State.{State}
use Rattle.p11_panel.specs.Shown.{shown_devices}
use Rattle.p11_store.specs.declared.store.StoreError.{StoreError}
use Rattle.p11_store.specs.declared.store.StoreError.TheVariants as stores
use Rattle.p11_panel.specs.Calls.Sizes.{is_size}
use Rattle.p11_console.specs.Files.{Takes}
use Rattle.p11_console.specs.State.{opened}
use Rattle.p11_console.specs.Steps.{Steps}
use Rattle.p11_console.specs.declared.trouble.PutFault.{PutFault}
use Rattle.p11_console.specs.declared.trouble.PutFault.TheVariants as puts
use Rattle.p11_dialogue.specs.declared.want.Want.{Want}
use Rattle.p11_dialogue.specs.declared.want.Want.TheVariants as wants
use Rattle.p11_handles.specs.Calls.{Lent, lent}
use Rattle.p11_handles.specs.HeldCalls.{HandsText}
use Rattle.p11_handles.specs.HeldConsoles.{Dialogue, HeldDialogue, settings_of}
use Rattle.p11_handles.specs.Statuses.{number_of_status}
use Rattle.p11_handles.specs.declared.status.Status.{Status}
use Rattle.p11_handles.specs.declared.status.Status.TheVariants.{Done, NoMemory, BadSize, BadFiles, TooSmall, TooLong, NoMachine, NoFile, TooMany}

-- the number by which C knows what a console wants
unfoldable pub number_of_want : Want → ℕ
number_of_want wants.Step = 0
number_of_want wants.Keys = 1
number_of_want wants.Idle = 2
number_of_want wants.Memory = 3
number_of_want wants.Fetch = 4
number_of_want wants.Put = 5
number_of_want wants.Names = 6
number_of_want wants.End = 7

-- yes is 1
unfoldable pub number_of_bool : Bool → ℕ
number_of_bool is_so = if is_so then 1 else 0

-- why the host has no bytes of a file: 7 is want of memory, and each other number a refusal
unfoldable pub error_of : ℕ → StoreError
error_of trouble = if nat_eq trouble 7 then stores.NoMemory else stores.Refused

-- the number by which C says what became of a file that was to be written: it is, one is there, or it is refused
unfoldable pub number_of_put : Result (Unit {0}) PutFault → ℕ
number_of_put (Ok done) = 0
number_of_put (Err puts.There) = 1
number_of_put (Err (puts.Refused reason)) = 2

-- what becomes of a file that was to be written is told by C's number
abbrev pub TakesBy : ℕ → Dialogue → Dialogue → Type 0
TakesBy trouble c c' =
    (done : Result (Unit {0}) PutFault) × (number_of_put done ≡ min trouble 2) × Takes done c.activity c c'

-- a step is made, and C's number tells what is wanted
abbrev pub StepsTelling : ℕ → Dialogue → ℕ → Dialogue → Type 0
StepsTelling turns c told c' = (want : Want) × (told ≡ number_of_want want) × Steps turns c want c'

-- what a call does where a console is held; where none is, it says so and does nothing
unfoldable pub OnConsole : (Dialogue → Status → Dialogue → Type 0) → Type 0 → HeldDialogue → ℤ → HeldDialogue → Type 0
OnConsole Does Nothing None number held' = (number ≡ number_of_status NoMachine) × (held' ≡ None) × Nothing
OnConsole Does Nothing (Some c) number held' =
    (status : Status) × (number ≡ number_of_status status) × (c' : Dialogue) × (held' ≡ Some c') × Does c status c'

-- it is done, or there is no memory for it
unfoldable pub DoneOr : Status → Type 0 → Type 0 → Type 0
DoneOr Done Did Kept = Did
DoneOr NoMemory Did Kept = Kept
DoneOr BadSize Did Kept = ⊥
DoneOr BadFiles Did Kept = ⊥
DoneOr TooSmall Did Kept = ⊥
DoneOr TooLong Did Kept = ⊥
DoneOr NoMachine Did Kept = ⊥
DoneOr NoFile Did Kept = ⊥
DoneOr TooMany Did Kept = ⊥

-- so many bytes are taken from the front of a text, or it hasn't so many
unfoldable pub TakesFront : Status → ℕ → List ℕ → Type 0 → Type 0 → Type 0
TakesFront Done count text Did Kept = (count ≤ length text) × Did
TakesFront TooMany count text Did Kept = (length text < count) × Kept
TakesFront NoMemory count text Did Kept = ⊥
TakesFront BadSize count text Did Kept = ⊥
TakesFront BadFiles count text Did Kept = ⊥
TakesFront TooSmall count text Did Kept = ⊥
TakesFront TooLong count text Did Kept = ⊥
TakesFront NoMachine count text Did Kept = ⊥
TakesFront NoFile count text Did Kept = ⊥

-- a buffer begins with so many bytes of a text and is told their number; what lies behind them is as it was
abbrev pub fronted : ℕ → List ℕ → Lent → Lent
fronted count text out = lent (take count text ++ drop count out.bytes) count

-- as much of a text is handed out, from its front, as the buffer has room for
abbrev pub HandsFront : List ℕ → Lent → Lent → Type 0
HandsFront text out out' = out' ≡ fronted (min (length text) (length out.bytes)) text out

-- what is wanted is handed out; where nothing is, nothing is written
abbrev pub HandsWanted : Status → Option (List ℕ) → Lent → Lent → Type 0
HandsWanted status asked out out' =
    MatchOption asked ((status ≡ NoFile) × (out' ≡ out)) (λ text. HandsText status text out out')

-- the lines of a machine's devices are handed out, or there is no memory for them and nothing is written
abbrev pub HandsDevices : Status → State → Lent → Lent → Type 0
HandsDevices status s out out' =
    HandsText status (text_of {A = Global} (answers.Devices (shown_devices s))) out out' ⊎ ((status ≡ NoMemory) × (out' ≡ out))

-- a machine can have these sizes, and C's number is one of a manner
abbrev pub can_open : ℕ → ℕ → ℕ → Bool
can_open kwords lines manner = is_size kwords lines && nat_le manner 2

-- What a handle is asked to hold: a console over a new machine of these sizes, with settings by C's numbers.
pub record Wished : Type 0 where
  pub kwords : ℕ
  pub lines : ℕ
  pub manner : ℕ
  pub strict : ℕ
  pub saveless : ℕ
  pub talk : ℕ

abbrev pub wished : ℕ → ℕ → ℕ → ℕ → ℕ → ℕ → Wished
wished kwords lines manner strict saveless talk =
    record { kwords = kwords; lines = lines; manner = manner; strict = strict; saveless = saveless; talk = talk }

abbrev pub dialogue_of : Wished → Dialogue
dialogue_of it = opened (new_machine it.kwords) (settings_of it.manner it.strict it.saveless it.talk)

-- the handle holds it; or what it held, where that is refused
unfoldable pub OpensConsole : Wished → Status → HeldDialogue → HeldDialogue → Type 0
OpensConsole it Done held held' = (can_open it.kwords it.lines it.manner ≡ true) × (held' ≡ Some (dialogue_of it))
OpensConsole it NoMemory held held' = (can_open it.kwords it.lines it.manner ≡ true) × (held' ≡ held)
OpensConsole it BadSize held held' = (can_open it.kwords it.lines it.manner ≡ false) × (held' ≡ held)
OpensConsole it BadFiles held held' = ⊥
OpensConsole it TooSmall held held' = ⊥
OpensConsole it TooLong held held' = ⊥
OpensConsole it NoMachine held held' = ⊥
OpensConsole it NoFile held held' = ⊥
OpensConsole it TooMany held held' = ⊥
