-- What a session does with the lines of a script.
use Rattle.std.specs.Prelude.{◌≡◌, ◌⊎◌, ℕ, Bool, true, nat_eq, nat_lt, not, ◌||◌, List, [], ◌∷◌, ◌++◌, length, Option, Some, None, IsSomeAnd, IsTrue, if◌then◌else◌}
use Rattle.std.specs.Option.{option_to_list}
use Rattle.std.specs.List.{flat_map}
use Rattle.std.specs.Bool.{MatchBool}
use Rattle.p11_lines.specs.declared.answer.Answer.{Answer}
use Rattle.p11_lines.specs.declared.answer.Answer.TheVariants as answers
use Rattle.p11_lines.specs.declared.fault.Fault.{Fault}
use Rattle.p11_lines.specs.declared.fault.Fault.TheVariants.{BadLine, NoMemory, StoreFault}
use Rattle.p11_lines.specs.declared.line.Line.{Line}
use Rattle.p11_lines.specs.declared.line.Line.TheVariants as lines
use Rattle.p11_lines.specs.AnswerText.{text_of}
use Rattle.p11_lines.specs.Grammar.{is_blank, line_from}
use Rattle.p11_lines.specs.Reading.{holds_list}
use Rattle.p11_lines.specs.Written.{AppendsFront}
use Rattle.p11_lines.specs.Writers.{WriterState, Writes}
use Rattle.p11_cpu.specs.State.{State}
use Rattle.p11_panel.specs.Refusals.{IsRefused}
use Rattle.p11_store.specs.Store.{StoreState, Fetches, FailsToFetch, Puts, FailsToPut}
use Rattle.p11_store.specs.declared.store.StoreError.{StoreError}
use Rattle.p11_store.specs.declared.store.StoreError.TheVariants as errors
use Rattle.p11_panel.specs.declared.command.Command.{Command}
use Rattle.p11_panel.specs.declared.command.Command.TheVariants as commands
use Rattle.p11_panel.specs.Commands.{CommandStep}

-- what a session goes on over: a machine, and a store of files
pub record SessionState : Type 0 where
  pub machine : State
  pub store : StoreState

abbrev pub with_store : State → StoreState → SessionState
with_store machine store = record { machine = machine; store = store }

-- a blank line, or a remark: its first byte past spaces and tabs is `#`
unfoldable pub is_silent : List ℕ → Bool
is_silent [] = true
is_silent (byte ∷ bytes) = if is_blank byte then is_silent bytes else nat_eq byte 35

-- a line has an answer unless it is silent, and any line of more than 4,096 bytes has one
unfoldable pub has_answer : List ℕ → Bool
has_answer line = nat_lt 4096 (length line) || not (is_silent line)

-- a command leaves the store
abbrev pub IsCommand : {A : Type 0} → Command A → SessionState → Answer A → SessionState → Type 0
IsCommand command s answer s' = CommandStep s.machine command answer s'.machine × (s'.store ≡ s.store)

-- what a fetch is answered that gives no bytes
abbrev pub fault_of : StoreError → Fault
fault_of errors.Refused = StoreFault
fault_of errors.NoMemory = NoMemory

-- a command on the bytes under a name, which are fetched before all else
abbrev pub OnFile : {A : Type 0} → List ℕ → (List ℕ → Command A) → SessionState → Answer A → SessionState → Type 0
OnFile name command s answer s' =
    ((bytes : List ℕ) × Fetches s.store name bytes s'.store × CommandStep s.machine (command bytes) answer s'.machine)
    ⊎ ((error : StoreError) × FailsToFetch s.store name error s'.store
    × (answer ≡ answers.Refused (fault_of error)) × (s'.machine ≡ s.machine))

-- what is done with the answer of SAVE: an image is put under a name; where it is refused, nothing is
abbrev pub Keeps : {A : Type 0} → List ℕ → Answer A → StoreState → Answer A → StoreState → Type 0
Keeps name (answers.Image image) s answer s' =
    (Puts s name image s' × (answer ≡ answers.Done)) ⊎ (FailsToPut s name s' × (answer ≡ answers.Refused StoreFault))
Keeps name refusal s answer s' = (answer ≡ refusal) × (s' ≡ s)

-- what a line does that the grammar has
unfoldable pub Obeys : {A : Type 0} → Line A → SessionState → Answer A → SessionState → Type 0
Obeys (lines.Mount drive name protect) s answer s' =
    OnFile name (λ image. commands.Mount drive image protect) s answer s'
Obeys (lines.Unmount drive) s answer s' = IsCommand (commands.Unmount drive) s answer s'
Obeys {A} (lines.Save drive name) s answer s' =
    (shown : Answer A) × CommandStep s.machine (commands.Save drive) shown s'.machine
    × Keeps name shown s.store answer s'.store
Obeys (lines.Changed drive) s answer s' = IsCommand (commands.Changed drive) s answer s'
Obeys (lines.Load name) s answer s' = OnFile name (λ tape. commands.Load tape) s answer s'
Obeys (lines.Examine address count) s answer s' = IsCommand (commands.Examine address count) s answer s'
Obeys (lines.Deposit address words) s answer s' = IsCommand (commands.Deposit address words) s answer s'
Obeys (lines.Start address) s answer s' = IsCommand (commands.Start address) s answer s'
Obeys (lines.Key text) s answer s' = IsCommand (commands.Key text) s answer s'
Obeys lines.Tick s answer s' = IsCommand commands.Tick s answer s'
Obeys (lines.Clock period) s answer s' = IsCommand (commands.Clock period) s answer s'
Obeys (lines.Switches word) s answer s' = IsCommand (commands.Switches word) s answer s'
Obeys (lines.Set register value) s answer s' = IsCommand (commands.Set register value) s answer s'
Obeys (lines.Step turns) s answer s' = IsCommand (commands.Step turns) s answer s'
Obeys (lines.Continue turns) s answer s' = IsCommand (commands.Continue turns) s answer s'
Obeys lines.Flush s answer s' = IsCommand commands.Flush s answer s'
Obeys lines.Regs s answer s' = IsCommand commands.Regs s answer s'
Obeys lines.Device s answer s' = IsCommand commands.Device s answer s'

-- What a line with an answer does, by what the grammar makes of it; nothing where it is no line. Reading a line that
-- holds a list may find no memory, before all else.
abbrev pub Asks : {A : Type 0} → Option (Line A) → SessionState → Answer A → SessionState → Type 0
Asks None s answer s' = IsRefused BadLine s answer s'
Asks (Some line) s answer s' = Obeys line s answer s' ⊎ (IsTrue (holds_list line) × IsRefused NoMemory s answer s')

-- what a line does: its answer, if it has one, and the state after it
unfoldable pub LineDoes : {A : Type 0} → List ℕ → SessionState → Option (Answer A) → SessionState → Type 0
LineDoes line s answer s' =
    MatchBool (has_answer line) (IsSomeAnd answer (λ a. Asks (line_from line) s a s')) ((answer ≡ None) × (s' ≡ s))

-- the text of answers
abbrev pub texts_of : {A : Type 0} → List (Answer A) → List ℕ
texts_of answers = flat_map text_of answers

-- What lines do one after another, by what a line does: a relation between a line, a state, the line's answer, if it
-- has one, and the next state.
module _ {S A : Type 0} (Does : List ℕ → S → Option (Answer A) → S → Type 0) where
  -- lines, with all their answers
  unfoldable pub LinesRun : List (List ℕ) → S → List (Answer A) → S → Type 0
  LinesRun [] s answers s' = (answers ≡ []) × (s' ≡ s)
  LinesRun (line ∷ lines) s answers s'' =
      (answer : Option (Answer A)) × (s' : S) × (others : List (Answer A))
      × Does line s answer s' × LinesRun lines s' others s'' × (answers ≡ option_to_list answer ++ others)

  -- These lines are done: from s to s', with so many answers; and their text is written: no write fails.
  unfoldable pub ScriptDone : List (List ℕ) → S → WriterState → S → WriterState → ℕ → Type 0
  ScriptDone lines s old s' new count =
      (answers : List (Answer A)) × LinesRun lines s answers s'
      × Writes old new (texts_of answers) [] × (count ≡ length answers)

  -- Of these lines just those up to one are done, itself included. All earlier texts are written whole, and of its own
  -- text a front that isn't all of it, since the last write failed or took nothing.
  unfoldable pub ScriptCut : List (List ℕ) → S → WriterState → S → WriterState → Type 0
  ScriptCut lines s old s' new =
      (earlier : List (List ℕ)) × (line : List ℕ) × (others : List (List ℕ)) × (lines ≡ earlier ++ line ∷ others)
      × (before : S) × (between : WriterState) × (count : ℕ) × ScriptDone earlier s old before between count
      × (answer : Answer A) × Does line before (Some answer) s' × AppendsFront between new (text_of answer)
