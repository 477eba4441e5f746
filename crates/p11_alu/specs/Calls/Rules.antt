-- The handbook's rules for the V and C of NEG, ADC and SBC, which look at the operand or the result alone.
use Rattle.std.specs.Prelude.{ℕ, ◌-◌, ◌==◌, Bool, not, ◌&&◌, pos, ◌+ℤ◌, ◌-ℤ◌}
use Rattle.p11_words.specs.Bits.{flag}
use Rattle.p11_alu.specs.declared.size.Size.{Size}
use Rattle.p11_alu.specs.declared.codes.Codes.{Codes}
use Rattle.p11_alu.specs.Numbers.{modulus, sign_weight, val, wrapped}
use Rattle.p11_alu.specs.Results.{result_with}

-- NEG: V where the result is the least negative number, C where it isn't 0
unfoldable pub neg_by_rule : Size → ℕ → ℕ × Codes
neg_by_rule size n =
    let r = wrapped (modulus size) (pos 0 -ℤ pos (val size n)) in
    result_with size r (r == sign_weight size) (not (r == 0))

-- ADC: V where the operand was the greatest positive number and C was 1, C where it was all ones and C was 1
unfoldable pub adc_by_rule : Size → ℕ → Bool → ℕ × Codes
adc_by_rule size n c =
    result_with size (wrapped (modulus size) (pos (val size n) +ℤ pos (flag c 1)))
    (c && (val size n == sign_weight size - 1)) (c && (val size n == modulus size - 1))

-- SBC: V where the operand was the least negative number and C was 1, C where it was 0 and C was 1
unfoldable pub sbc_by_rule : Size → ℕ → Bool → ℕ × Codes
sbc_by_rule size n c =
    result_with size (wrapped (modulus size) (pos (val size n) -ℤ pos (flag c 1)))
    (c && (val size n == sign_weight size)) (c && (val size n == 0))
