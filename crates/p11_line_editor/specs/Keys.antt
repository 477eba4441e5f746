-- Which key a byte or an escape sequence is.
use Rattle.std.specs.Prelude.{ℕ, ◌&&◌, nat_le, nat_eq, List, [], ◌∷◌, Option, unwrap_or, if◌then◌else◌}
use Rattle.std.specs.Map.{lookup}
use Rattle.p11_line_editor.specs.declared.key.Key.{Key}
use Rattle.p11_line_editor.specs.declared.key.Key.TheVariants.{Character, Left, Right, Home, End, Up, Down, Back, Delete, CutEnd, CutFront, CutWord}
use Rattle.p11_line_editor.specs.declared.key.Key.TheVariants.{Yank, Screen, Search, Leave, Tab, Enter, Interrupt, EndOfInput, Refused}

-- the characters of the console's language: 040 to 176
abbrev pub graphic_key : ℕ → Key
graphic_key byte = if nat_le 32 byte && nat_le byte 126 then Character byte else Refused

-- the control characters that are keys
abbrev pub control_keys : List (ℕ × Key)
control_keys =
    (0o1, Home) ∷ (0o2, Left) ∷ (0o3, Interrupt) ∷ (0o4, EndOfInput) ∷ (0o5, End) ∷ (0o6, Right) ∷ (0o7, Leave)
    ∷ (0o10, Back) ∷ (0o11, Tab) ∷ (0o12, Enter) ∷ (0o13, CutEnd) ∷ (0o14, Screen) ∷ (0o15, Enter) ∷ (0o16, Down)
    ∷ (0o20, Up) ∷ (0o22, Search) ∷ (0o25, CutFront) ∷ (0o27, CutWord) ∷ (0o31, Yank) ∷ (0o177, Back) ∷ []

-- the key of a byte that stands alone
abbrev pub plain_key : ℕ → Key
plain_key byte = unwrap_or (lookup (nat_eq byte) control_keys) (graphic_key byte)

-- ESC [ LETTER and ESC O LETTER: A to D are the arrows, F and H End and Home
abbrev pub letter_keys : List (ℕ × Key)
letter_keys =
    (65, Up) ∷ (66, Down) ∷ (67, Right) ∷ (68, Left) ∷ (70, End) ∷ (72, Home) ∷ []

abbrev pub letter_key : ℕ → Option Key
letter_key letter = lookup (nat_eq letter) letter_keys

-- ESC [ DIGIT ~
abbrev pub number_keys : List (ℕ × Key)
number_keys =
    (1, Home) ∷ (7, Home) ∷ (3, Delete) ∷ (4, End) ∷ (8, End) ∷ []

abbrev pub number_key : ℕ → Option Key
number_key number = lookup (nat_eq number) number_keys
