-- The typed bytes that the text of answers shows, with escapes as their bytes.
use Rattle.std.specs.Prelude.{ℕ, ◌+◌, ◌*◌, ◌-◌, ◌%◌, zero, suc, nat_eq, List, [], ◌∷◌, take, drop, slice_index}
use Rattle.std.specs.Prelude.{codes, if◌then◌else◌}
use Rattle.std.specs.List.{flat_map}
use Rattle.std.specs.Str.{bytes_eq}
use Rattle.p11_panel.specs.Kept.Pieces.{cut_at_lf}

-- the byte whose three octal digits stand in front
unfoldable pub escaped_value : List ℕ → ℕ
escaped_value text =
    ((slice_index text 0 - 48) * 64 + (slice_index text 1 - 48) * 8 + (slice_index text 2 - 48)) % 256

-- the bytes that a text writes behind so many that are passed over: a backslash (134, octal) and three octal digits
-- are one byte, any other byte is itself
unfoldable pub written_past : ℕ → List ℕ → List ℕ
written_past passed [] = []
written_past (suc passed) (byte ∷ text) = written_past passed text
written_past zero (byte ∷ text) =
    if nat_eq byte 0o134 then escaped_value text ∷ written_past 3 text else byte ∷ written_past 0 text

abbrev pub written_in : List ℕ → List ℕ
written_in text = written_past 0 text

-- a line `TTY t` shows what t writes, and any other line nothing
unfoldable pub typed_on : List ℕ → List ℕ
typed_on line = if bytes_eq (take 4 line) (codes "TTY ") then written_in (drop 4 line) else []

-- what the lines of a text show
unfoldable pub typed_in : List ℕ → List ℕ
typed_in text = flat_map typed_on (cut_at_lf text).ended
