-- Numbers, digit by digit.
use Rattle.std.proofs.Common.{◌≡◌, ℕ, ◌+◌, ◌-◌, ◌*◌, ◌^◌, ◌<◌, ◌≤◌, true, ltb, List, [], ◌∷◌, length, take, get_or, refl, arith}
use Rattle.std.specs.Char.{digit_value}
use Rattle.std.specs.Str.Parse.{digits_value, AllDigits}
use Rattle.std.proofs.lemmas.Bool.{and_parts, ltb-true}
use Rattle.std.proofs.lemmas.Bool.Decides.{nat_tests}
use Rattle.std.proofs.lemmas.Int.Digits.{digits_value-lt, digits_value_more}
use Rattle.std.proofs.lemmas.List.Sums.{AllPass-from_list_all}
use Rattle.std.proofs.lemmas.Str.Parse.{digits_value-take-le}
use Rattle.std.proofs.Math.Nat.{pow-le-pow_left, pow-le-pow_right}
use Rattle.p11_lines.specs.Grammar.{all_digits}

AllDigits-from_test : (base : ℕ) (digits : List ℕ) → all_digits base digits ≡ true → AllDigits base digits
AllDigits-from_test base [] test = tt
AllDigits-from_test base (digit ∷ digits) test =
    let parts = and_parts (ltb (digit_value digit) base) (all_digits base digits) test in
    (ltb-true _ _ parts.0, AllDigits-from_test base digits parts.1)

-- a digit below ten is one from 0 on, which is 48
pub digit_value-is : (base digit : ℕ) → base ≤ 10 → digit_value digit < base → (48 ≤ digit) × (digit_value digit ≡ digit - 48)
digit_value-is base digit high below = (grind (arith, nat_tests), grind (arith, nat_tests))

-- the number of the digits up to the one at i, and that it is small
pub value_step : (base value i : ℕ) (digits : List ℕ) → base ≤ 10 → length digits ≤ 9 → all_digits base digits ≡ true → i < length digits → value ≡ digits_value base (take i digits)
    → (48 ≤ get_or digits i 0) × (value * base + (get_or digits i 0 - 48) ≡ digits_value base (take (i + 1) digits)) × (value * base + (get_or digits i 0 - 48) < 1000000000)
value_step base value i digits high few test short so_far =
    let below : digit_value (get_or digits i 0) < base = ltb-true _ _ (AllPass-from_list_all (λ digit. ltb (digit_value digit) base) digits test i 0 short) in
    let here = digit_value-is base (get_or digits i 0) high below in
    let next : value * base + (get_or digits i 0 - 48) ≡ digits_value base (take (i + 1) digits) = rw (digits_value_more base digits i short, here.1, so_far) refl in
    let part = digits_value-take-le base digits (i + 1) (omega (arith, below)) in
    let bound = digits_value-lt base digits (AllDigits-from_test base digits test) in
    let wider : base ^ length digits ≤ 10 ^ length digits = pow-le-pow_left high (length digits) in
    let longer : 10 ^ length digits ≤ 10 ^ 9 = pow-le-pow_right {n = 10} (omega arith) few in
    let most : 10 ^ 9 ≡ 1000000000 = refl in
    (here.0, next, omega (arith, next, part, bound, wider, longer, most))
