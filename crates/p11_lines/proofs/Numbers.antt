-- The numerals of a text, which are read as their numbers.
use Rattle.std.proofs.Common.{◌≡◌, ℕ, zero, suc, ◌+◌, ◌/◌, ◌%◌, ◌^◌, ◌<◌, ◌≤◌, true, false, nat_eq, nat_lt, nat_le, List, [], ◌∷◌, length, refl, inl, inr, arith, Some, All}
use Rattle.std.specs.Char.{digit_value}
use Rattle.std.specs.Str.Parse.{digits_value, AllDigits}
use Rattle.std.specs.Fmt.{digits, decimal, digits_onto, digit_glyph}
use Rattle.std.proofs.lemmas.Bool.{cases_Bool}
use Rattle.std.proofs.lemmas.Bool.Decides.{nat_tests}
use Rattle.std.proofs.lemmas.Fmt.{digits_is_IsNumeral, decimal_is_IsNumeral, length-decimal-le}
use Rattle.std.proofs.lemmas.List.Elements.{All-nil, All-cons}
use Rattle.std.proofs.Math.Nat.{pow-suc}
use Rattle.p11_lines.specs.Grammar.{all_digits, number_from, count_from}
use Rattle.p11_lines.specs.Calls.LineText.{octal, FitsCount}
use Rattle.p11_lines.proofs.Numerals.{digit_value-is}

-- a text of digits, at most so many, that writes the number
pub record Writes (base places number : ℕ) (text : List ℕ) : Type 0 where
  pub some : 0 < length text
  pub short : length text ≤ places
  pub all : AllDigits base text
  pub value : digits_value base text ≡ number

test_from-AllDigits : (base : ℕ) (text : List ℕ) → AllDigits base text → all_digits base text ≡ true
test_from-AllDigits base [] all = refl
test_from-AllDigits base (digit ∷ text) all =
    let here : nat_lt (digit_value digit) base ≡ true = grind (arith, nat_tests, all.0) in
    rw (here, test_from-AllDigits base text all.1) refl

-- it reads as the number
pub number_from-Writes : (base places greatest number : ℕ) (text : List ℕ) → Writes base places number text → number ≤ greatest → number_from base places greatest text ≡ Some number
unfolding number_from
number_from-Writes base places greatest number text writes within =
    let some : nat_lt 0 (length text) ≡ true = grind (arith, nat_tests, writes.some) in
    let short : nat_le (length text) places ≡ true = grind (arith, nat_tests, writes.short) in
    let fits : nat_le number greatest ≡ true = grind (arith, nat_tests) in
    rw (some, short, test_from-AllDigits base text writes.all, writes.value, fits) refl

-- no digit is a blank or a control character
pub graphs_from-AllDigits : (base : ℕ) (text : List ℕ) → base ≤ 10 → AllDigits base text → All (λ byte. 33 ≤ byte) text
graphs_from-AllDigits base [] high all = All-nil (λ byte. 33 ≤ byte)
graphs_from-AllDigits base (digit ∷ text) high all =
    All-cons (λ byte. 33 ≤ byte) digit text (omega (arith, (digit_value-is base digit high all.0).0)) (graphs_from-AllDigits base text high all.1)

-- a number below 8 ^ k has k octal digits at most
length-digits_onto : (fuel k number : ℕ) (after : List ℕ) → number < 8 ^ suc k → length (digits_onto fuel 8 false number after) ≤ length after + suc k
length-digits_onto zero k number after small = omega arith
length-digits_onto (suc fuel) zero number after small =
    let last : nat_eq (number / 8) 0 ≡ true = grind (arith, nat_tests, pow-suc 8 0) in
    rw last (omega arith)
length-digits_onto (suc fuel) (suc k) number after small =
    let further = length-digits_onto fuel k (number / 8) (digit_glyph false (number % 8) ∷ after) (omega (arith, pow-suc 8 (suc k))) in
    elim (cases_Bool (nat_eq (number / 8) 0)) [ inl last ↦ rw last (omega arith) | inr more ↦ rw more (omega (arith, further)) ]

length-octal : (number : ℕ) → number < 262144 → length (octal number) ≤ 6
unfolding digits
length-octal number small = length-digits_onto 64 5 number [] small

pub octal-Writes : (number : ℕ) → number ≤ 262143 → Writes 8 6 number (octal number)
octal-Writes number small =
    let numeral = digits_is_IsNumeral 8 false (omega arith) (omega arith) number (omega arith) in
    record { some = numeral.0.0; short = length-octal number (omega arith); all = numeral.0.1; value = numeral.1 }

pub decimal-Writes : (number : ℕ) → number ≤ 999999999 → Writes 10 9 number (decimal number)
decimal-Writes number small =
    let numeral = decimal_is_IsNumeral number (omega arith) in
    record { some = numeral.0.0; short = length-decimal-le 9 number (omega arith) (omega arith) (omega arith); all = numeral.0.1; value = numeral.1 }

-- a count reads as itself
pub count_from-decimal : (count : ℕ) → FitsCount count → count_from (decimal count) ≡ Some count
unfolding count_from
count_from-decimal count fits =
    let some : nat_lt 0 count ≡ true = grind (arith, nat_tests, fits.0) in
    rw (number_from-Writes 10 9 999999999 count (decimal count) (decimal-Writes count fits.1) fits.1, some) refl
