-- The lines of a text.
use Rattle.std.specs.Prelude.{ℕ, ◌+◌, Bool, nat_eq, List, [], take, drop, position, Option, Some, None}
use Rattle.p11_lines.specs.LineEnd.{without_cr}

-- LF (10) ends a line
unfoldable pub is_line_feed : ℕ → Bool
is_line_feed byte = nat_eq byte 10

abbrev pub line_before : Option ℕ → List ℕ → List ℕ
line_before (Some place) text = without_cr (take place text)
line_before None text = without_cr text

abbrev pub behind_at : Option ℕ → List ℕ → List ℕ
behind_at (Some place) text = drop (place + 1) text
behind_at None text = []

-- the first line, without its LF and a CR just before that; and what is behind it
unfoldable pub first_line : List ℕ → List ℕ
first_line text = line_before (position is_line_feed text) text

unfoldable pub behind_line : List ℕ → List ℕ
behind_line text = behind_at (position is_line_feed text) text
