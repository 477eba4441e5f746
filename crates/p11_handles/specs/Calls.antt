-- What a call of C's does.
use Rattle.std.specs.Prelude.{ℤ, ◌≡◌, ◌*◌, ◌<◌, ◌≤◌, ◌⊎◌, ℕ, true, false, List, ◌++◌, length, drop}
use Rattle.p11_lines.specs.declared.answer.Answer.{Answer}
use Rattle.p11_cpu.specs.State.{State}
use Rattle.p11_cpu.specs.Operator.{new_machine}
use Rattle.p11_store.specs.Calls.Files.{NamedBytes, MemoryFiles, store_of}
use Rattle.p11_panel.specs.Script.{script_lines}
use Rattle.p11_panel.specs.Session.{with_store, LineDoes, LinesRun, texts_of}
use Rattle.p11_panel.specs.Calls.Sizes.{is_size}
use Rattle.p11_handles.specs.Rows.{IsRow, IsNoRow}
use Rattle.p11_handles.specs.Statuses.{number_of_status}
use Rattle.p11_handles.specs.declared.status.Status.{Status}
use Rattle.p11_handles.specs.declared.status.Status.TheVariants.{Done, NoMemory, BadSize, BadFiles, TooSmall, TooLong, NoMachine, NoFile, TooMany}

-- files in memory of which none was refused yet
abbrev pub unrefused : List NamedBytes → MemoryFiles
unrefused files = record { files = files; refusals = 0 }

-- What is asked for: a machine of these sizes, a script, and the row of the files that the store has.
pub record Asked : Type 0 where
  pub kwords : ℕ
  pub lines : ℕ
  pub script : List ℕ
  pub files : List ℕ

abbrev pub asked_for : ℕ → ℕ → List ℕ → List ℕ → Asked
asked_for kwords lines script files = record { kwords = kwords; lines = lines; script = script; files = files }

-- The whole session of a script over a machine and files: its text, and the row of the files after it.
pub record PlaysOver (A : Type 0) (start : State) (given : List NamedBytes) (script text files : List ℕ) : Type 0 where
  pub answers : List (Answer A)
  pub machine : State
  pub store : MemoryFiles
  pub runs : LinesRun (LineDoes {A = A}) (script_lines script) (with_store start (store_of (unrefused given))) answers
      (with_store machine (store_of store))
  pub text_is : text ≡ texts_of answers
  pub files_are : IsRow files store.files

-- the whole session of a script on a new machine, over the files of a row
pub record SessionGives (A : Type 0) (asked : Asked) (text files : List ℕ) : Type 0 where
  pub sized : is_size asked.kwords asked.lines ≡ true
  pub given : List NamedBytes
  pub given_are : IsRow asked.files given
  pub plays : PlaysOver A (new_machine asked.kwords) given asked.script text files

-- a buffer of the caller's: its bytes, and the length that it is told
pub record Lent : Type 0 where
  pub bytes : List ℕ
  pub told : ℕ

abbrev pub lent : List ℕ → ℕ → Lent
lent bytes told = record { bytes = bytes; told = told }

-- it has these bytes at its front and is told how many they are; what lies behind them is as it was
abbrev pub holding : List ℕ → Lent → Lent
holding bytes buffer = lent (bytes ++ drop (length bytes) buffer.bytes) (length bytes)

-- it is told how many bytes there would be, and its own bytes are as they were
abbrev pub told_of : List ℕ → Lent → Lent
told_of bytes buffer = lent buffer.bytes (length bytes)

-- What is handed out, by the status. Done, each buffer had room, and holds its bytes. Too small, one had none, and each
-- is told its length.
unfoldable pub HandsOut : Status → List ℕ → List ℕ → Lent → Lent → Lent → Lent → Type 0
HandsOut Done text files out list out' list' =
    (length text ≤ length out.bytes) × (length files ≤ length list.bytes)
    × (out' ≡ holding text out) × (list' ≡ holding files list)
HandsOut TooSmall text files out list out' list' =
    ((length out.bytes < length text) ⊎ (length list.bytes < length files))
    × (out' ≡ told_of text out) × (list' ≡ told_of files list)
HandsOut NoMemory text files out list out' list' = ⊥
HandsOut BadSize text files out list out' list' = ⊥
HandsOut BadFiles text files out list out' list' = ⊥
HandsOut TooLong text files out list out' list' = ⊥
HandsOut NoMachine text files out list out' list' = ⊥
HandsOut NoFile text files out list out' list' = ⊥
HandsOut TooMany text files out list out' list' = ⊥

-- These bytes take too many reads of at most 4,096: 999,999 of them, and one byte more.
abbrev pub TookManyReads : List ℕ → Type 0
TookManyReads bytes = 4096 * 999999 < length bytes

-- a session of what is asked for, and what is shown of its text is handed out with the files after it
pub record Answers (A : Type 0) (shown : List ℕ → List ℕ) (asked : Asked) (status : Status)
    (out list out' list' : Lent) : Type 0 where
  pub text : List ℕ
  pub files : List ℕ
  pub session : SessionGives A asked text files
  pub hands : HandsOut status (shown text) files out list out' list'

-- why there was none, where it was not for want of memory
unfoldable pub Refuses : Status → Asked → Type 0
Refuses Done asked = ⊥
Refuses TooSmall asked = ⊥
Refuses NoMemory asked = is_size asked.kwords asked.lines ≡ true
Refuses BadSize asked = is_size asked.kwords asked.lines ≡ false
Refuses BadFiles asked = (is_size asked.kwords asked.lines ≡ true) × IsNoRow asked.files
Refuses TooLong asked = (is_size asked.kwords asked.lines ≡ true) × TookManyReads asked.script
Refuses NoMachine asked = ⊥
Refuses NoFile asked = ⊥
Refuses TooMany asked = ⊥

-- it is refused, and nothing is written
pub record Rejects (asked : Asked) (status : Status) (out list out' list' : Lent) : Type 0 where
  pub refuses : Refuses status asked
  pub out_is : out' ≡ out
  pub list_is : list' ≡ list

-- how a call ends that has this number: with a session's answers, or with a refusal
abbrev pub Ends : (A : Type 0) → (List ℕ → List ℕ) → Asked → ℤ → Lent → Lent → Lent → Lent → Type 0
Ends A shown asked number out list out' list' =
    (status : Status) × (number ≡ number_of_status status)
    × (Answers A shown asked status out list out' list' ⊎ Rejects asked status out list out' list')
