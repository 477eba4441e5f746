-- Bytes as a line shows them: a graphic byte but the backslash as itself, any other by a backslash and three digits.
use Rattle.std.specs.Prelude.{ℕ, ◌+◌, ◌/◌, ◌%◌, Bool, ◌&&◌, not, nat_le, nat_eq, List, [], ◌∷◌, if◌then◌else◌}
use Rattle.std.specs.List.{flat_map}

-- a byte that stands for itself: 041 to 176 but the backslash, which is 134 (octal)
abbrev pub is_plain : ℕ → Bool
is_plain byte = nat_le 0o41 byte && nat_le byte 0o176 && not (nat_eq byte 0o134)

-- what shows a byte
unfoldable pub escaped_byte : ℕ → List ℕ
escaped_byte byte =
    if is_plain byte then byte ∷ [] else 0o134 ∷ (48 + byte / 64) ∷ (48 + byte / 8 % 8) ∷ (48 + byte % 8) ∷ []

-- what shows bytes
abbrev pub escaped : List ℕ → List ℕ
escaped bytes = flat_map escaped_byte bytes
