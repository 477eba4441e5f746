-- Words and bytes as numbers: sums and differences keep their 16 low bits.
use Rattle.std.specs.Prelude.{ℕ, ◌+◌, ◌-◌, ◌%◌, pos, ◌-ℤ◌}
use Rattle.p11_alu.specs.declared.size.Size as widths
use Rattle.p11_alu.specs.declared.size.Size.TheVariants as width
use Rattle.p11_alu.specs.Numbers.{modulus, val, sval, wrapped}
use Rattle.p11_decode.specs.declared.operand.Size.{Size}
use Rattle.p11_decode.specs.declared.operand.Size.TheVariants.{Word, Byte}

-- the size of an operand as the arithmetic names it
abbrev pub width_of : Size → widths.Size
width_of Word = width.Word
width_of Byte = width.Byte

abbrev pub plus : ℕ → ℕ → ℕ
plus word n = (word + n) % 65536

unfoldable pub minus : ℕ → ℕ → ℕ
minus word n = wrapped 65536 (pos word -ℤ pos n)

-- every bit of a word, or of a byte, turned
unfoldable pub complement : Size → ℕ → ℕ
complement size n = modulus (width_of size) - 1 - val (width_of size) n

-- the word of the same signed value
unfoldable pub sign_extended : Size → ℕ → ℕ
sign_extended size n = wrapped 65536 (sval (width_of size) n)
