-- Files in memory.
use Rattle.std.specs.Prelude.{ℕ, List, [], ◌∷◌, ◌++◌, Option, None, Some, if◌then◌else◌}
use Rattle.std.specs.Str.{bytes_eq}
use Rattle.p11_store.specs.Store.{StoreState}

pub record NamedBytes : Type 0 where
  pub name : List ℕ
  pub bytes : List ℕ

-- what one has under a name, and else what was there
abbrev pub unless_named : NamedBytes → List ℕ → Option (List ℕ) → Option (List ℕ)
unless_named file name there = if bytes_eq file.name name then Some file.bytes else there

-- the bytes under a name, of which the last count
unfoldable pub bytes_under : Option (List ℕ) → List NamedBytes → List ℕ → Option (List ℕ)
bytes_under there [] name = there
bytes_under there (file ∷ files) name = bytes_under (unless_named file name there) files name

-- files in the order in which they were put, and how often one was refused
pub record MemoryFiles : Type 0 where
  pub files : List NamedBytes
  pub refusals : ℕ

abbrev pub store_of : MemoryFiles → StoreState
store_of memory = record { files = Some (bytes_under None memory.files); refusals = memory.refusals; calls = None }

-- one more file is put
abbrev pub with_file : List ℕ → List ℕ → MemoryFiles → MemoryFiles
with_file name bytes memory =
    record memory { files = memory.files ++ (record { name = name; bytes = bytes }) ∷ [] }
