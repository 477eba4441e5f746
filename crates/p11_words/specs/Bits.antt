-- Single bits of a word, each by its weight.
use Rattle.std.specs.Prelude.{ℕ, ◌/◌, ◌%◌, Bool, ◌==◌, if◌then◌else◌}

-- a flag as a number: its weight or 0
abbrev pub flag : Bool → ℕ → ℕ
flag is_set weight = if is_set then weight else 0

-- the bit of a word that has this weight
abbrev pub bit_of : ℕ → ℕ → Bool
bit_of word weight = word / weight % 2 == 1
