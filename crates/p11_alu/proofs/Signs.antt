-- The sign bit against the signed value.
use Rattle.std.proofs.Common.{◌≡◌, ℕ, ◌*◌, ◌%◌, ◌/◌, ◌<◌, not, nat_eq, bit_and, int_lt, pos, arith}
use Rattle.std.proofs.lemmas.Bool.Decides.{nat_tests}
use Rattle.std.proofs.lemmas.Nat.Bits.{and_pow}
use Rattle.p11_alu.specs.declared.size.Size.TheVariants.{Word, Byte}
use Rattle.p11_alu.specs.Numbers.{sval}

bit_of_word : (n : ℕ) → bit_and n 32768 ≡ n / 32768 % 2 * 32768
bit_of_word n = and_pow n 15

bit_of_byte : (n : ℕ) → bit_and n 128 ≡ n / 128 % 2 * 128
bit_of_byte n = and_pow n 7

pub negative_word : (n : ℕ) → n < 65536 → not (nat_eq (bit_and n 32768) 0) ≡ int_lt (sval Word n) (pos 0)
negative_word n h = rw (bit_of_word n) (grind (arith, nat_tests))

pub negative_byte : (n : ℕ) → n < 65536 → not (nat_eq (bit_and n 128) 0) ≡ int_lt (sval Byte n) (pos 0)
negative_byte n h = rw (bit_of_byte n) (grind (arith, nat_tests))
