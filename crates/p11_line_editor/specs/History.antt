-- The lines that were done before.
use Rattle.std.specs.Prelude.{ℕ, Bool, ◌||◌, nat_eq, List, [], ◌∷◌, length, take, drop, Option, if◌then◌else◌}
use Rattle.std.specs.List.{position_from, starts_with}
use Rattle.std.specs.Str.{bytes_eq}

-- the newest line is this one
abbrev pub begins_with_line : List ℕ → List (List ℕ) → Bool
begins_with_line line [] = nat_eq (length line) 0
begins_with_line line (newest ∷ rest) = nat_eq (length line) 0 || bytes_eq newest line

-- A line more, the newest first, and 500 at most. An empty one and the one that is there already change nothing.
unfoldable pub remembered : List ℕ → List (List ℕ) → List (List ℕ)
remembered line lines = if begins_with_line line lines then lines else take 500 (line ∷ lines)

-- the text has this part somewhere
abbrev pub contains : List ℕ → List ℕ → Bool
contains part [] = starts_with nat_eq [] part
contains part (byte ∷ rest) = starts_with nat_eq (byte ∷ rest) part || contains part rest

-- the first line that has this part, from so many back on
abbrev pub found_from : List ℕ → ℕ → List (List ℕ) → Option ℕ
found_from part back lines = position_from (contains part) back (drop back lines)
