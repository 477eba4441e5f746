-- The lines of a script: the pieces that LF (10) ends, without a CR (13) just before it, and at the end of the script
-- the piece after the last LF.
use Rattle.std.specs.Prelude.{ℕ, ◌-◌, nat_eq, List, ◌++◌, length, map, take, drop}
use Rattle.std.specs.List.{slice_split}
use Rattle.p11_lines.specs.LineEnd.{without_cr}

-- the pieces between the LFs: there is one more of them than of LFs
abbrev pub pieces_of : List ℕ → List (List ℕ)
pieces_of bytes = slice_split (λ byte. nat_eq byte 10) bytes

-- the lines that LF ended
unfoldable pub ended_lines : List ℕ → List (List ℕ)
ended_lines bytes = map without_cr (take (length (pieces_of bytes) - 1) (pieces_of bytes))

-- all lines. The last is empty where an LF ends the script; an empty line has no answer.
unfoldable pub script_lines : List ℕ → List (List ℕ)
script_lines bytes = ended_lines bytes ++ drop (length (pieces_of bytes) - 1) (pieces_of bytes)
