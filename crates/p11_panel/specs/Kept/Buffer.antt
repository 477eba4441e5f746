-- What is kept of a line while it is read.
use Rattle.std.specs.Prelude.{ℕ, nat_le, nat_lt, List, [], ◌∷◌, ◌++◌, length, Option, Some, None, if◌then◌else◌}

-- all of it, or nothing once it is too long even with a CR at its end
unfoldable pub kept : List ℕ → Option (List ℕ)
kept piece = if nat_le (length piece) 4097 then Some piece else None

-- after one more byte
abbrev pub pushed : Option (List ℕ) → ℕ → Option (List ℕ)
pushed None byte = None
pushed (Some bytes) byte = if nat_lt (length bytes) 4097 then Some (bytes ++ byte ∷ []) else None
