-- Which numbers a word or a byte holds.
use Rattle.std.specs.Prelude.{ℕ, ◌<◌}
use Rattle.p11_alu.specs.Numbers.{modulus}
use Rattle.p11_alu.specs.declared.size.Size.{Size}

-- the number fits the size
abbrev pub Fits : Size → ℕ → Type 0
Fits size n = n < modulus size
