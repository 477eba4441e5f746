-- Files as one row of bytes: for each the length of its name, its name, the length of its bytes, its bytes.
use Rattle.std.specs.Prelude.{◌≡◌, ℕ, ◌/◌, ◌%◌, ◌^◌, ◌<◌, List, [], ◌∷◌, ◌++◌, length}
use Rattle.std.specs.List.{All, flat_map}
use Rattle.p11_store.specs.Calls.Files.{NamedBytes}

-- a file, by its name
abbrev pub file_of : List ℕ → List ℕ → NamedBytes
file_of name bytes = record { name = name; bytes = bytes }

-- a number in 4 bytes, the lowest first
unfoldable pub number_bytes : ℕ → List ℕ
number_bytes number =
    number % 256 ∷ number / 256 % 256 ∷ number / 65536 % 256 ∷ number / 16777216 % 256 ∷ []

-- bytes, behind the number of them
unfoldable pub counted : List ℕ → List ℕ
counted bytes = number_bytes (length bytes) ++ bytes

-- a file: its name and its bytes
unfoldable pub file_row : NamedBytes → List ℕ
file_row file = counted file.name ++ counted file.bytes

-- files, one after another
abbrev pub row_of : List NamedBytes → List ℕ
row_of files = flat_map file_row files

-- both lengths are numbers of 4 bytes
pub record Fits (file : NamedBytes) : Type 0 where
  pub name : length file.name < 2 ^ 32
  pub bytes : length file.bytes < 2 ^ 32

-- the row is that of these files
pub record IsRow (row : List ℕ) (files : List NamedBytes) : Type 0 where
  pub row_is : row ≡ row_of files
  pub fit : All Fits files

-- what follows these bytes in a row, behind their number
pub record Follows (row bytes rest : List ℕ) : Type 0 where
  pub split : row ≡ counted bytes ++ rest
  pub fits : length bytes < 2 ^ 32

-- a row begins with this file
pub record FollowsFile (row : List ℕ) (file : NamedBytes) (rest : List ℕ) : Type 0 where
  pub split : row ≡ file_row file ++ rest
  pub fits : Fits file

-- no file begins it, or no bytes behind their number do
abbrev pub HasNoFile : List ℕ → Type 0
HasNoFile row = (file : NamedBytes) (rest : List ℕ) → FollowsFile row file rest → ⊥

abbrev pub HasNoBytes : List ℕ → Type 0
HasNoBytes row = (bytes rest : List ℕ) → Follows row bytes rest → ⊥

-- it is no row of files
abbrev pub IsNoRow : List ℕ → Type 0
IsNoRow row = (files : List NamedBytes) → IsRow row files → ⊥

-- a row has one list of files
abbrev pub RowsReadBack : Type 0
RowsReadBack = (row : List ℕ) (files others : List NamedBytes) → IsRow row files → IsRow row others → files ≡ others
