-- What a call does with a machine that a handle holds.
use Rattle.std.specs.Prelude.{ℤ, ◌≡◌, ◌<◌, ◌≤◌, ◌⊎◌, ℕ, true, false, not, List, ◌∷◌, ◌++◌, length, None, Some, MatchOption}
use Rattle.std.specs.List.{filter}
use Rattle.std.specs.Str.{bytes_eq}
use Rattle.p11_lines.specs.declared.answer.Answer.{Answer}
use Rattle.p11_lines.specs.AnswerText.{text_of}
use Rattle.p11_store.specs.Calls.Files.{NamedBytes, bytes_under, store_of, with_file}
use Rattle.p11_panel.specs.Script.{ended_lines, script_lines}
use Rattle.p11_panel.specs.Session.{SessionState, with_store, LineDoes, LinesRun, texts_of}
use Rattle.p11_panel.specs.Calls.Sizes.{is_size}
use Rattle.p11_store.specs.Store.{Puts, Has, KeepsOthers}
use Rattle.p11_handles.specs.Calls.{Lent, TookManyReads, holding, told_of, unrefused}
use Rattle.p11_handles.specs.Held.{Kept, Held, new_kept}
use Rattle.p11_handles.specs.Rows.{Fits, IsRow, IsNoRow, file_of}
use Rattle.p11_handles.specs.Statuses.{number_of_status}
use Rattle.p11_handles.specs.Typed.{typed_in}
use Rattle.p11_handles.specs.declared.status.Status.{Status}
use Rattle.p11_handles.specs.declared.status.Status.TheVariants.{Done, NoMemory, BadSize, BadFiles, TooSmall, TooLong, NoMachine, NoFile, TooMany}

-- what lines go on over: the machine and the files that are kept, of which so many were refused
abbrev pub state_of : Kept → ℕ → SessionState
state_of kept refusals = with_store kept.machine (store_of (record { files = kept.files; refusals = refusals }))

-- Lines are done, one after another, and all their text is kept.
pub record Plays (A : Type 0) (lines : List (List ℕ)) (kept kept' : Kept) : Type 0 where
  pub answers : List (Answer A)
  pub refusals : ℕ
  pub runs : LinesRun (LineDoes {A = A}) lines (state_of kept 0) answers (state_of kept' refusals)
  pub text_is : kept'.answer ≡ texts_of answers

-- Lines up to one are done, itself included: all earlier text is kept, and a front of its own that isn't all of it.
pub record Stops (A : Type 0) (lines : List (List ℕ)) (kept kept' : Kept) : Type 0 where
  pub earlier : List (List ℕ)
  pub line : List ℕ
  pub others : List (List ℕ)
  pub split : lines ≡ earlier ++ line ∷ others
  pub answers : List (Answer A)
  pub before : SessionState
  pub runs : LinesRun (LineDoes {A = A}) earlier (state_of kept 0) answers before
  pub answer : Answer A
  pub refusals : ℕ
  pub does : LineDoes line before (Some answer) (state_of kept' refusals)
  pub front : List ℕ
  pub back : List ℕ
  pub text_is : kept'.answer ≡ texts_of answers ++ front
  pub answer_is : text_of answer ≡ front ++ back
  pub unkept : 0 < length back

-- what is so of the front of a script that was read
abbrev pub OfFront : List ℕ → (List ℕ → Type 0) → Type 0
OfFront script Is = (read : List ℕ) × (rest : List ℕ) × (script ≡ read ++ rest) × Is read

-- What is done of a script, by the status. Done, all of it; too long, the lines that LF ended in what 1,000,000 reads gave;
-- with no memory for a text, the lines up to the one whose text it is.
unfoldable pub LinesEnd : (A : Type 0) → List ℕ → Status → Kept → Kept → Type 0
LinesEnd A script Done kept kept' = Plays A (script_lines script) kept kept'
LinesEnd A script TooLong kept kept' = OfFront script (λ read. TookManyReads read × Plays A (ended_lines read) kept kept')
LinesEnd A script NoMemory kept kept' =
    Stops A (script_lines script) kept kept' ⊎ OfFront script (λ read. Stops A (ended_lines read) kept kept')
LinesEnd A script BadSize kept kept' = ⊥
LinesEnd A script BadFiles kept kept' = ⊥
LinesEnd A script TooSmall kept kept' = ⊥
LinesEnd A script NoMachine kept kept' = ⊥
LinesEnd A script NoFile kept kept' = ⊥
LinesEnd A script TooMany kept kept' = ⊥

-- what is handed out, by the status
unfoldable pub HandsText : Status → List ℕ → Lent → Lent → Type 0
HandsText Done text out out' = (length text ≤ length out.bytes) × (out' ≡ holding text out)
HandsText TooSmall text out out' = (length out.bytes < length text) × (out' ≡ told_of text out)
HandsText NoMemory text out out' = ⊥
HandsText BadSize text out out' = ⊥
HandsText BadFiles text out out' = ⊥
HandsText TooLong text out out' = ⊥
HandsText NoMachine text out out' = ⊥
HandsText NoFile text out out' = ⊥
HandsText TooMany text out out' = ⊥

-- the files are handed out as their row, or there is no memory for the row and nothing is written
abbrev pub HandsFiles : Status → List NamedBytes → Lent → Lent → Type 0
HandsFiles status files out out' =
    ((row : List ℕ) × IsRow row files × HandsText status row out out') ⊎ ((status ≡ NoMemory) × (out' ≡ out))

-- the typed bytes that the text shows are handed out, or there is no memory for them and nothing is written
abbrev pub HandsTyped : Status → List ℕ → Lent → Lent → Type 0
HandsTyped status text out out' = HandsText status (typed_in text) out out' ⊎ ((status ≡ NoMemory) × (out' ≡ out))

-- the last bytes under a name are handed out; where the store has no file of the name, nothing is written
abbrev pub HandsFile : Status → List NamedBytes → List ℕ → Lent → Lent → Type 0
HandsFile status files name out out' =
    MatchOption (bytes_under None files name) ((status ≡ NoFile) × (out' ≡ out)) (λ bytes. HandsText status bytes out out')

-- one more file is kept, behind the others
abbrev pub with_kept_file : List ℕ → List ℕ → Kept → Kept
with_kept_file name bytes kept = record kept { files = (with_file name bytes (unrefused kept.files)).files }

-- A file is put, by the status. Done, it is kept behind the others, and so, as of any store, its name has its bytes, and
-- each other name what it had. Bad, its lengths are too large for a row of files. Where it isn't done, nothing changes.
unfoldable pub PutsFile : List ℕ → List ℕ → Status → Kept → Kept → Type 0
PutsFile name bytes Done kept kept' = Fits (file_of name bytes) × (kept' ≡ with_kept_file name bytes kept)
    × Puts (store_of (unrefused kept.files)) name bytes (store_of (unrefused kept'.files))
PutsFile name bytes NoMemory kept kept' = Fits (file_of name bytes) × (kept' ≡ kept)
PutsFile name bytes BadFiles kept kept' = (Fits (file_of name bytes) → ⊥) × (kept' ≡ kept)
PutsFile name bytes BadSize kept kept' = ⊥
PutsFile name bytes TooSmall kept kept' = ⊥
PutsFile name bytes TooLong kept kept' = ⊥
PutsFile name bytes NoMachine kept kept' = ⊥
PutsFile name bytes NoFile kept kept' = ⊥
PutsFile name bytes TooMany kept kept' = ⊥

-- the files that don't have a name, in their order
abbrev pub without : List ℕ → List NamedBytes → List NamedBytes
without name files = filter (λ file. not (bytes_eq file.name name)) files

-- A name is forgotten: each file of it goes, and the others stay. So, as of any store, the name has no bytes, and each
-- other name what it had. Where the store has no file of the name, nothing changes.
abbrev pub Forgets : List ℕ → Kept → Kept → Type 0
Forgets name kept kept' = (kept' ≡ record kept { files = without name kept.files })
    × Has (store_of (unrefused kept'.files)).files name None
    × KeepsOthers (store_of (unrefused kept.files)).files name (store_of (unrefused kept'.files)).files

abbrev pub ForgetsFile : List ℕ → Status → Kept → Kept → Type 0
ForgetsFile name status kept kept' =
    MatchOption (bytes_under None kept.files name) ((status ≡ NoFile) × (kept' ≡ kept))
    (λ bytes. (status ≡ Done) × Forgets name kept kept')

-- what a call does where a machine is held; where none is, it says so and does nothing
unfoldable pub OnHeld : (Kept → Status → Kept → Type 0) → Type 0 → Held → ℤ → Held → Type 0
OnHeld Does Nothing None number held' = (number ≡ number_of_status NoMachine) × (held' ≡ None) × Nothing
OnHeld Does Nothing (Some kept) number held' =
    (status : Status) × (number ≡ number_of_status status) × (kept' : Kept) × (held' ≡ Some kept') × Does kept status kept'

-- the handle holds a new machine of these sizes with the files of a row; or what it held, where that is refused
unfoldable pub Opens : ℕ → ℕ → List ℕ → Status → Held → Held → Type 0
Opens kwords lines row Done held held' = (is_size kwords lines ≡ true)
    × ((files : List NamedBytes) × IsRow row files × (held' ≡ Some (new_kept kwords files)))
Opens kwords lines row NoMemory held held' = (is_size kwords lines ≡ true) × (held' ≡ held)
Opens kwords lines row BadSize held held' = (is_size kwords lines ≡ false) × (held' ≡ held)
Opens kwords lines row BadFiles held held' = (is_size kwords lines ≡ true) × IsNoRow row × (held' ≡ held)
Opens kwords lines row TooSmall held held' = ⊥
Opens kwords lines row TooLong held held' = ⊥
Opens kwords lines row NoMachine held held' = ⊥
Opens kwords lines row NoFile held held' = ⊥
Opens kwords lines row TooMany held held' = ⊥
