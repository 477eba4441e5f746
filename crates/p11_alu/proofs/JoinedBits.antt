-- Bits that are joined by `|`, as sums.
use Rattle.std.proofs.Common.{◌≡◌, ℕ, ◌+◌, ◌*◌, ◌%◌, ◌/◌, ◌<◌, Bool, true, false, int_lt, pos, bit_or, arith}
use Rattle.std.proofs.lemmas.Bool.Decides.{nat_tests}
use Rattle.std.proofs.lemmas.Nat.{or_shifted}
use Rattle.p11_alu.specs.declared.size.Size.{Size}
use Rattle.p11_alu.specs.declared.size.Size.TheVariants.{Word, Byte}
use Rattle.p11_alu.specs.Numbers.{modulus, sign_weight, val, sval}
use Rattle.p11_words.specs.Bits.{flag}
use Rattle.p11_alu.specs.Shifts.{sign_of}

-- the sign bit says that the signed value is below 0
pub sign_of-val : (size : Size) (n : ℕ) → n < 65536 → sign_of (sign_weight size) (val size n) ≡ int_lt (sval size n) (pos 0)
sign_of-val Word n h = grind (arith, nat_tests)
sign_of-val Byte n h = grind (arith, nat_tests)

carry_below : (c : Bool) → flag c 1 < 2
carry_below true = omega arith
carry_below false = omega arith

joined_low : (n p : ℕ) → p < 2 → bit_or (n * 2 % 65536) p ≡ n * 2 % 65536 + p
joined_low n p h =
    let e : n * 2 % 65536 ≡ n % 32768 * 2 = omega arith in
    rw e (or_shifted (n % 32768) 1 p h)

pub val-joined_low : (size : Size) (n p : ℕ) (c : Bool) → p ≡ flag c 1 → val size (bit_or (n * 2 % 65536) p) ≡ (2 * val size n + flag c 1) % modulus size
val-joined_low Word n p c e =
    let h = carry_below c in rw (e, joined_low n (flag c 1) h) (omega arith)
val-joined_low Byte n p c e =
    let h = carry_below c in rw (e, joined_low n (flag c 1) h) (omega arith)

pub swapped_bytes : (w : ℕ) → w < 65536 → bit_or (w * 256 % 65536) (w / 256) ≡ w % 256 * 256 + w / 256
swapped_bytes w h =
    let e : w * 256 % 65536 ≡ w % 256 * 256 = omega arith in
    rw e (or_shifted (w % 256) 8 (w / 256) (omega arith))
