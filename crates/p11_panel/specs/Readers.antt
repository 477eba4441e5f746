-- A reader, as far as contracts know it.
use Rattle.std.specs.Prelude.{◌≡◌, ℕ, ◌<◌, ◌≤◌, List, ◌++◌, length, map, sum, All, Option, None, Some}
use Rattle.std.specs.Io.KnownBytes.{Consumes}
use Rattle.p11_lines.specs.Writers.{with_calls}
use Rattle.p11_panel.specs.declared.read_call.ReadCall.{ReadCall}

-- The bytes that are left to read, and the reads, the first one first. Each where it is known.
pub record ReaderState : Type 0 where
  pub left : Option (List ℕ)
  pub reads : Option (List ReadCall)

-- the reads of a session, each with room for 4,096 bytes: one that gave so many, the end, and one that failed
abbrev pub gave : ℕ → ReadCall
gave count = record { room = 4096; gave = Some count }

abbrev pub ended : ReadCall
ended = gave 0

abbrev pub failed : ReadCall
failed = record { room = 4096; gave = None }

-- some bytes, and no more than there is room for
abbrev pub GivesSome : ℕ → Type 0
GivesSome count = (0 < count) × (count ≤ 4096)

-- Bytes are read: by so many reads that each gave 1 to 4,096 of them, and then such ones that gave none.
pub record Reads (old new : ReaderState) (bytes : List ℕ) (count : ℕ) (last : List ReadCall) : Type 0 where
  pub consumed : Consumes old.left new.left bytes
  pub given : List ℕ
  pub reads : new.reads ≡ with_calls old.reads (map gave given ++ last)
  pub counted : count ≡ length given
  pub some : All GivesSome given
  pub all : length bytes ≡ sum given
