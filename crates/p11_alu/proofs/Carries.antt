-- The carry of a sum and the borrow of a difference, as tests of sizes.
use Rattle.std.proofs.Common.{◌≡◌, ℕ, ◌<◌, not, nat_lt, nat_eq, pos, ◌+ℤ◌, ◌-ℤ◌, arith}
use Rattle.std.specs.Ordering.{int_eq}
use Rattle.std.proofs.lemmas.Bool.Decides.{nat_tests}
use Rattle.p11_alu.specs.declared.size.Size.{Size}
use Rattle.p11_alu.specs.declared.size.Size.TheVariants.{Word, Byte}
use Rattle.p11_alu.specs.Numbers.{modulus, val, wrapped}

-- a sum fits just where it isn't below its first number
pub carry_out : (size : Size) (a b : ℕ) → a < 65536 → b < 2 → nat_lt (wrapped (modulus size) (pos (val size a) +ℤ pos (val size b))) (val size a) ≡ not (int_eq (pos (val size a) +ℤ pos (val size b)) (pos (wrapped (modulus size) (pos (val size a) +ℤ pos (val size b)))))
carry_out Word a b p q = grind (arith, nat_tests)
carry_out Byte a b p q = grind (arith, nat_tests)

-- a difference fits just where its second number isn't above the first
pub borrow_out : (size : Size) (a b : ℕ) → a < 65536 → b < 2 → nat_lt (val size a) b ≡ not (int_eq (pos (val size a) -ℤ pos (val size b)) (pos (wrapped (modulus size) (pos (val size a) -ℤ pos (val size b)))))
borrow_out Word a b p q = grind (arith, nat_tests)
borrow_out Byte a b p q = grind (arith, nat_tests)

-- of 0 only 0 can be taken
pub borrow_from_0 : (size : Size) (a : ℕ) → a < 65536 → not (nat_eq (val size a) 0) ≡ not (int_eq (pos (val size 0) -ℤ pos (val size a)) (pos (wrapped (modulus size) (pos (val size 0) -ℤ pos (val size a)))))
borrow_from_0 Word a p = grind (arith, nat_tests)
borrow_from_0 Byte a p = grind (arith, nat_tests)
