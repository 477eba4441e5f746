-- ASH and ASHC: single shifts in a row.
use Rattle.std.specs.Prelude.{ℕ, zero, suc, ◌%◌, ◌==◌, Bool, ◌||◌, false, ℤ, pos, negsuc, int_lt}
use Rattle.p11_alu.specs.declared.size.Size.TheVariants.{Word}
use Rattle.p11_alu.specs.declared.codes.Codes.{Codes}
use Rattle.p11_alu.specs.declared.pair.Pair.{Pair}
use Rattle.p11_alu.specs.Numbers.{twos_complement}
use Rattle.p11_alu.specs.Pairs.{number_of, pair_of}
use Rattle.p11_alu.specs.Results.{result_with}
use Rattle.p11_alu.specs.Shifts.{sign_of, exclusive_or, left_once, right_once}

-- A number on its way: its bits, the bit that went out last, and whether the sign changed at any
-- shift so far.
pub record Shifting : Type 0 where
  pub value : ℕ
  pub out : Bool
  pub changed : Bool

-- before the first shift
abbrev pub start_of : ℕ → Shifting
start_of n = record { value = n; out = false; changed = false }

-- after one more shift, which leaves this number and puts this bit out; the sign bit weighs h
abbrev pub one_on : ℕ → Shifting → ℕ → Bool → Shifting
one_on h s next bit =
    record {
      value = next;
      out = bit;
      changed = s.changed || exclusive_or (sign_of h s.value) (sign_of h next);
    }

-- one shift to the left, and one to the right
abbrev pub step_left : ℕ → Shifting → Shifting
step_left h s = one_on h s (left_once h s.value) (sign_of h s.value)

abbrev pub step_right : ℕ → Shifting → Shifting
step_right h s = one_on h s (right_once h s.value) (s.value % 2 == 1)

-- a step n times in a row
abbrev pub times : (Shifting → Shifting) → ℕ → Shifting → Shifting
times step zero s = s
times step (suc n) s = step (times step n s)

-- a positive count shifts to the left, a negative one to the right
abbrev pub shifted_by : ℕ → ℤ → ℕ → Shifting
shifted_by h (pos k) n = times (step_left h) k (start_of n)
shifted_by h (negsuc k) n = times (step_right h) (suc k) (start_of n)

-- the count is the low six bits of its word, signed: -32 to 31
abbrev pub count_of : ℕ → ℤ
count_of count = twos_complement 32 (count % 64)

-- ASH: N and Z by the result, V if the sign changed, C the bit that went out last.
unfoldable pub ash_of : ℕ → ℕ → ℕ × Codes
ash_of n count =
    let s = shifted_by 32768 (count_of count) n in
    result_with Word s.value s.changed s.out

-- ASHC: the same over a pair as one number of 32 bits.
unfoldable pub ashc_of : Pair → ℕ → Pair × Codes
ashc_of pair count =
    let s = shifted_by 2147483648 (count_of count) (number_of pair) in (
      pair_of s.value,
      record { n = int_lt (twos_complement 2147483648 s.value) (pos 0); z = s.value == 0; v = s.changed; c = s.out },
    )
