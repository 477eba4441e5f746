-- Words and bytes as whole numbers.
use Rattle.std.specs.Prelude.{ℕ, ◌-◌, ◌*◌, ◌%◌, ℤ, pos, negsuc, ◌-ℤ◌, nat_lt, if◌then◌else◌}
use Rattle.p11_alu.specs.declared.size.Size.{Size}
use Rattle.p11_alu.specs.declared.size.Size.TheVariants.{Word, Byte}

-- the weight of the sign bit, which is also how many numbers have it clear
abbrev pub sign_weight : Size → ℕ
sign_weight Word = 32768
sign_weight Byte = 128

-- how many numbers a size has: one more than the greatest unsigned one
abbrev pub modulus : Size → ℕ
modulus Word = 65536
modulus Byte = 256

-- the unsigned value: a byte instruction looks at the low byte alone
abbrev pub val : Size → ℕ → ℕ
val Word n = n
val Byte n = n % 256

-- the signed value of n in two's complement, where the sign bit weighs h
abbrev pub twos_complement : ℕ → ℕ → ℤ
twos_complement h n = if nat_lt n h then pos n else (pos n) -ℤ (pos (2 * h))

-- the signed value
abbrev pub sval : Size → ℕ → ℤ
sval size n = twos_complement (sign_weight size) (val size n)

-- what is stored of a whole number: the remainder of it by m that isn't negative
abbrev pub wrapped : ℕ → ℤ → ℕ
wrapped m (pos n) = n % m
wrapped m (negsuc n) = m - 1 - n % m
