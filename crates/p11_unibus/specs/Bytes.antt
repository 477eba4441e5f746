-- Bytes of words: the low byte of a word stands at its even address, the high byte at the odd one.
use Rattle.std.specs.Prelude.{ℕ, ◌+◌, ◌-◌, ◌*◌, ◌/◌, ◌%◌, ◌==◌, Bool, if◌then◌else◌}
use Rattle.p11_memory.specs.Memory.{Words, has_word}

-- the address of the word that holds a byte
abbrev pub even : ℕ → ℕ
even address = address - address % 2

-- the byte of a word that stands at an address
abbrev pub byte_at : ℕ → ℕ → ℕ
byte_at address word = if address % 2 == 0 then word % 256 else word / 256

-- a word with the byte that stands at an address replaced by the low byte of another word
abbrev pub with_byte : ℕ → ℕ → ℕ → ℕ
with_byte address byte word =
    if address % 2 == 0 then word / 256 * 256 + byte % 256 else word % 256 + byte % 256 * 256

-- whether memory holds the byte at an address
abbrev pub has_byte : Words → ℕ → Bool
has_byte memory address = has_word memory (even address)
