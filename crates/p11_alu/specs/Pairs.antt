-- Two words as one number of 32 bits.
use Rattle.std.specs.Prelude.{ℕ, ◌+◌, ◌*◌, ◌/◌, ◌%◌, ℤ}
use Rattle.p11_alu.specs.declared.pair.Pair.{Pair}
use Rattle.p11_alu.specs.Numbers.{twos_complement}

-- the unsigned number of a pair
abbrev pub number_of : Pair → ℕ
number_of p = p.high * 65536 + p.low

-- the signed number of a pair
abbrev pub pair_value : Pair → ℤ
pair_value p = twos_complement 2147483648 (number_of p)

-- the pair of an unsigned number below 2^32
abbrev pub pair_of : ℕ → Pair
pair_of n = record { high = n / 65536; low = n % 65536 }
