-- The handbook's rules for NEG, ADC and SBC are those of a difference and of a sum.
use Rattle.std.proofs.Common.{◌≡◌, ℕ, ◌-◌, ◌<◌, Bool, true, false, not, ◌&&◌, ◌==◌, ℤ, pos, ◌+ℤ◌, ◌-ℤ◌, refl, sym, ◌∙◌, arith}
use Rattle.std.specs.Ordering.{int_eq}
use Rattle.std.proofs.lemmas.Bool.Decides.{nat_tests}
use Rattle.p11_alu.specs.declared.size.Size.{Size}
use Rattle.p11_alu.specs.declared.size.Size.TheVariants.{Word, Byte}
use Rattle.p11_alu.specs.Numbers.{modulus, sign_weight, val, sval, wrapped}
use Rattle.p11_alu.specs.Calls.Rules.{neg_by_rule, adc_by_rule, sbc_by_rule}
use Rattle.p11_alu.specs.Results.{result_of, result_with, sum_of, difference_of}
use Rattle.p11_words.specs.Bits.{flag}

-- two results with one number, whose V and C are equal
same_rule : (size : Size) (r : ℕ) (v c : Bool) (signed unsigned : ℤ) → r ≡ wrapped (modulus size) unsigned → v ≡ not (int_eq signed (sval size (wrapped (modulus size) unsigned))) → c ≡ not (int_eq unsigned (pos (wrapped (modulus size) unsigned))) → result_with size r v c ≡ result_of size signed unsigned
same_rule size r v c signed unsigned p q s = rw (p, q, s) refl

neg_overflow : (size : Size) (n : ℕ) → n < 65536 → (wrapped (modulus size) (pos 0 -ℤ pos (val size n)) == sign_weight size) ≡ not (int_eq (pos 0 -ℤ sval size n) (sval size (wrapped (modulus size) (pos 0 -ℤ pos (val size n)))))
neg_overflow Word n h = grind (arith, nat_tests)
neg_overflow Byte n h = grind (arith, nat_tests)

neg_borrow : (size : Size) (n : ℕ) → n < 65536 → not (wrapped (modulus size) (pos 0 -ℤ pos (val size n)) == 0) ≡ not (int_eq (pos 0 -ℤ pos (val size n)) (pos (wrapped (modulus size) (pos 0 -ℤ pos (val size n)))))
neg_borrow Word n h = grind (arith, nat_tests)
neg_borrow Byte n h = grind (arith, nat_tests)

adc_overflow : (size : Size) (n : ℕ) (c : Bool) → n < 65536 → (c && (val size n == sign_weight size - 1)) ≡ not (int_eq (sval size n +ℤ pos (flag c 1)) (sval size (wrapped (modulus size) (pos (val size n) +ℤ pos (flag c 1)))))
adc_overflow Word n true h = grind (arith, nat_tests)
adc_overflow Word n false h = grind (arith, nat_tests)
adc_overflow Byte n true h = grind (arith, nat_tests)
adc_overflow Byte n false h = grind (arith, nat_tests)

adc_carry : (size : Size) (n : ℕ) (c : Bool) → n < 65536 → (c && (val size n == modulus size - 1)) ≡ not (int_eq (pos (val size n) +ℤ pos (flag c 1)) (pos (wrapped (modulus size) (pos (val size n) +ℤ pos (flag c 1)))))
adc_carry Word n true h = grind (arith, nat_tests)
adc_carry Word n false h = grind (arith, nat_tests)
adc_carry Byte n true h = grind (arith, nat_tests)
adc_carry Byte n false h = grind (arith, nat_tests)

sbc_overflow : (size : Size) (n : ℕ) (c : Bool) → n < 65536 → (c && (val size n == sign_weight size)) ≡ not (int_eq (sval size n -ℤ pos (flag c 1)) (sval size (wrapped (modulus size) (pos (val size n) -ℤ pos (flag c 1)))))
sbc_overflow Word n true h = grind (arith, nat_tests)
sbc_overflow Word n false h = grind (arith, nat_tests)
sbc_overflow Byte n true h = grind (arith, nat_tests)
sbc_overflow Byte n false h = grind (arith, nat_tests)

sbc_borrow : (size : Size) (n : ℕ) (c : Bool) → n < 65536 → (c && (val size n == 0)) ≡ not (int_eq (pos (val size n) -ℤ pos (flag c 1)) (pos (wrapped (modulus size) (pos (val size n) -ℤ pos (flag c 1)))))
sbc_borrow Word n true h = grind (arith, nat_tests)
sbc_borrow Word n false h = grind (arith, nat_tests)
sbc_borrow Byte n true h = grind (arith, nat_tests)
sbc_borrow Byte n false h = grind (arith, nat_tests)

-- 0 and 1 are the same numbers in both sizes
zero_is : (size : Size) (n : ℕ) → result_of size (sval size 0 -ℤ sval size n) (pos (val size 0) -ℤ pos (val size n)) ≡ result_of size (pos 0 -ℤ sval size n) (pos 0 -ℤ pos (val size n))
zero_is Word n = refl
zero_is Byte n = refl

plus_c : (size : Size) (n : ℕ) (c : Bool) → result_of size (sval size n +ℤ sval size (flag c 1)) (pos (val size n) +ℤ pos (val size (flag c 1))) ≡ result_of size (sval size n +ℤ pos (flag c 1)) (pos (val size n) +ℤ pos (flag c 1))
plus_c Word n true = refl
plus_c Word n false = refl
plus_c Byte n true = refl
plus_c Byte n false = refl

less_c : (size : Size) (n : ℕ) (c : Bool) → result_of size (sval size n -ℤ sval size (flag c 1)) (pos (val size n) -ℤ pos (val size (flag c 1))) ≡ result_of size (sval size n -ℤ pos (flag c 1)) (pos (val size n) -ℤ pos (flag c 1))
less_c Word n true = refl
less_c Word n false = refl
less_c Byte n true = refl
less_c Byte n false = refl

pub neg_rule : (size : Size) (n : ℕ) → n < 65536 → neg_by_rule size n ≡ difference_of size 0 n
unfolding neg_by_rule difference_of
neg_rule size n h =
    same_rule size _ _ _ (pos 0 -ℤ sval size n) (pos 0 -ℤ pos (val size n)) refl
    (neg_overflow size n h) (neg_borrow size n h)
    ∙ sym (zero_is size n)

pub adc_rule : (size : Size) (n : ℕ) (c : Bool) → n < 65536 → adc_by_rule size n c ≡ sum_of size n (flag c 1)
unfolding adc_by_rule sum_of
adc_rule size n c h =
    same_rule size _ _ _ (sval size n +ℤ pos (flag c 1)) (pos (val size n) +ℤ pos (flag c 1)) refl
    (adc_overflow size n c h) (adc_carry size n c h)
    ∙ sym (plus_c size n c)

pub sbc_rule : (size : Size) (n : ℕ) (c : Bool) → n < 65536 → sbc_by_rule size n c ≡ difference_of size n (flag c 1)
unfolding sbc_by_rule difference_of
sbc_rule size n c h =
    same_rule size _ _ _ (sval size n -ℤ pos (flag c 1)) (pos (val size n) -ℤ pos (flag c 1)) refl
    (sbc_overflow size n c h) (sbc_borrow size n c h)
    ∙ sym (less_c size n c)
