-- What a handle of C's holds.
use Rattle.std.specs.Prelude.{ℕ, List, [], Option, None, Some}
use Rattle.p11_cpu.specs.State.{State}
use Rattle.p11_cpu.specs.Operator.{new_machine}
use Rattle.p11_store.specs.Calls.Files.{NamedBytes}

-- a machine, the files of its store, and the text of the last answers
pub record Kept : Type 0 where
  pub machine : State
  pub files : List NamedBytes
  pub answer : List ℕ

abbrev pub kept_of : State → List NamedBytes → List ℕ → Kept
kept_of machine files answer = record { machine = machine; files = files; answer = answer }

-- a new machine with these files, of which nothing was asked yet
abbrev pub new_kept : ℕ → List NamedBytes → Kept
new_kept kwords files = kept_of (new_machine kwords) files []

-- a machine or none
abbrev pub Held : Type 0
Held = Option Kept

-- how many machines are held
unfoldable pub machines_of : Held → ℕ
machines_of None = 0
machines_of (Some kept) = 1
