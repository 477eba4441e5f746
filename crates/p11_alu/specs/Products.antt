-- Products and quotients of signed numbers.
use Rattle.std.specs.Prelude.{ℕ, ◌==◌, Bool, not, ◌&&◌, true, false, ℤ, pos, neg_ℤ, ◌*ℤ◌, int_lt, int_le, int_div, int_rem, if◌then◌else◌}
use Rattle.std.specs.Ordering.{int_eq}
use Rattle.p11_alu.specs.declared.size.Size.TheVariants.{Word}
use Rattle.p11_alu.specs.declared.codes.Codes.{Codes}
use Rattle.p11_alu.specs.declared.pair.Pair.{Pair}
use Rattle.p11_alu.specs.declared.quotient.Quotient.{Quotient}
use Rattle.p11_alu.specs.Numbers.{sval, wrapped}
use Rattle.p11_alu.specs.Pairs.{pair_of, pair_value}

-- the number is the signed value of some word: it is in -2^15 to 2^15 - 1
abbrev pub fits_word : ℤ → Bool
fits_word z = int_le (neg_ℤ (pos 32768)) z && int_lt z (pos 32768)

-- MUL: the signed product as 32 bits; N and Z by the product, V cleared, C where it fits no word.
unfoldable pub mul_of : ℕ → ℕ → Pair × Codes
mul_of a b =
    let product = sval Word a *ℤ sval Word b in (
      pair_of (wrapped 4294967296 product),
      record { n = int_lt product (pos 0); z = int_eq product (pos 0); v = false; c = not (fits_word product) },
    )

-- No quotient is stored: V set, N and Z 0.
abbrev pub answer_without : Bool → Quotient
answer_without c =
    record { fits = false; quotient = 0; remainder = 0; codes = record { n = false; z = false; v = true; c = c } }

-- What DIV answers where q and r are the quotient and the remainder: N and Z by the quotient,
-- V where it fits no word, C cleared.
abbrev pub answer_with : ℤ → ℤ → Quotient
answer_with q r =
    if fits_word q
    then record {
      fits = true;
      quotient = wrapped 65536 q;
      remainder = wrapped 65536 r;
      codes = record { n = int_lt q (pos 0); z = int_eq q (pos 0); v = false; c = false };
    }
    else answer_without false

-- DIV: a pair by a word; V and C where the divisor is 0.
unfoldable pub div_of : Pair → ℕ → Quotient
div_of dividend divisor =
    let quotient = int_div (pair_value dividend) (sval Word divisor) in
    let remainder = int_rem (pair_value dividend) (sval Word divisor) in
    if divisor == 0 then answer_without true else answer_with quotient remainder
