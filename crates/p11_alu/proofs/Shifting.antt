-- Single shifts in a row are a shift at once.
use Rattle.std.proofs.Common.{◌≡◌, ◌≢◌, inl, inr, bit_and, nat_eq, ℕ, zero, suc, ◌-◌, ◌*◌, ◌/◌, ◌%◌, ◌^◌, ◌<◌, ◌≤◌, Bool, false, not, ◌||◌, ◌==◌, int_lt, ℤ, pos, negsuc, ◌+ℤ◌, ◌*ℤ◌, refl, arith, ap, sym, subst, ◌∙◌}
use Rattle.std.specs.Int.{int_shr}
use Rattle.std.proofs.lemmas.Bool.Decides.{nat_tests}
use Rattle.std.proofs.lemmas.Int.{ints}
use Rattle.std.proofs.lemmas.Nat.{shr_le, and_mask}
use Rattle.std.proofs.lemmas.Bool.{cases_lt}
use Rattle.p11_alu.specs.declared.size.Size.TheVariants.{Word}
use Rattle.p11_alu.specs.declared.codes.Codes.{Codes}
use Rattle.p11_alu.specs.declared.pair.Pair.{Pair}
use Rattle.p11_alu.specs.Numbers.{twos_complement, sval, wrapped}
use Rattle.p11_alu.specs.Pairs.{number_of, pair_of, pair_value}
use Rattle.p11_alu.specs.Products.{fits_word}
use Rattle.p11_alu.specs.Shifts.{sign_of, exclusive_or, left_once, right_once}
use Rattle.p11_alu.specs.CountedShifts.{Shifting, start_of, step_left, step_right, times, shifted_by, count_of, ash_of, ashc_of}
use Rattle.p11_alu.specs.Calls.ShiftsAtOnce.{is_odd, fits_pair, number_at_once, out_at_once}
use Rattle.p11_alu.proofs.Powers.{times_one, twice, halved_none, halved_more}

-- a word of 16 bits, or a pair of 32
pub data Width : Type 0 where
  word : Width
  pair : Width

abbrev pub sign_bit : Width → ℕ
sign_bit word = 32768
sign_bit pair = 2147483648

abbrev pub bits_of : Width → ℕ
bits_of word = 16
bits_of pair = 32

abbrev pub fits : Width → ℤ → Bool
fits word z = fits_word z
fits pair z = fits_pair z

-- the number has a signed value of that width
abbrev pub Small : ℕ → ℤ → Type 0
Small h (pos a) = a < h
Small h (negsuc a) = a < h

-- where shifts have led that left the whole number z, and put this bit out last
abbrev pub form : Width → ℤ → Bool → Shifting
form w z out = record { value = wrapped (2 * sign_bit w) z; out = out; changed = not (fits w z) }

same_shifting : (a b : ℕ) (c d e f : Bool) → a ≡ b → c ≡ d → e ≡ f → ◌≡◌ {A = Shifting} (record { value = a; out = c; changed = e }) (record { value = b; out = d; changed = f })
same_shifting a b c d e f p q r = cc

-- ---- to the left

left_value : (w : Width) (z : ℤ) → left_once (sign_bit w) (wrapped (2 * sign_bit w) z) ≡ wrapped (2 * sign_bit w) (z +ℤ z)
left_value word (pos t) = omega arith
left_value word (negsuc t) = omega arith
left_value pair (pos t) = omega arith
left_value pair (negsuc t) = omega arith

left_out : (w : Width) (z : ℤ) → sign_of (sign_bit w) (wrapped (2 * sign_bit w) z) ≡ is_odd (int_shr (z +ℤ z) (bits_of w))
left_out word (pos t) = grind (arith, nat_tests)
left_out word (negsuc t) = grind (arith, nat_tests)
left_out pair (pos t) = grind (arith, nat_tests)
left_out pair (negsuc t) = grind (arith, nat_tests)

left_changed : (w : Width) (z : ℤ) → (not (fits w z) || exclusive_or (sign_of (sign_bit w) (wrapped (2 * sign_bit w) z)) (sign_of (sign_bit w) (wrapped (2 * sign_bit w) (z +ℤ z)))) ≡ not (fits w (z +ℤ z))
left_changed word (pos t) = grind (arith, nat_tests)
left_changed word (negsuc t) = grind (arith, nat_tests)
left_changed pair (pos t) = grind (arith, nat_tests)
left_changed pair (negsuc t) = grind (arith, nat_tests)

left_step : (w : Width) (z : ℤ) (b : Bool) → step_left (sign_bit w) (form w z b) ≡ form w (z +ℤ z) (is_odd (int_shr (z +ℤ z) (bits_of w)))
left_step w z b =
    same_shifting _ _ _ _ _ _ (left_value w z) (left_out w z)
    (ap (λ n. not (fits w z) || exclusive_or (sign_of (sign_bit w) (wrapped (2 * sign_bit w) z)) (sign_of (sign_bit w) n)) (left_value w z) ∙ left_changed w z)

-- ---- to the right

right_value : (w : Width) (z : ℤ) → Small (sign_bit w) z → right_once (sign_bit w) (wrapped (2 * sign_bit w) z) ≡ wrapped (2 * sign_bit w) (int_shr z 1)
right_value word (pos t) h = grind (arith, nat_tests)
right_value word (negsuc t) h = grind (arith, nat_tests)
right_value pair (pos t) h = grind (arith, nat_tests)
right_value pair (negsuc t) h = grind (arith, nat_tests)

right_out : (w : Width) (z : ℤ) → (wrapped (2 * sign_bit w) z % 2 == 1) ≡ is_odd z
right_out word (pos t) = grind (arith, nat_tests)
right_out word (negsuc t) = grind (arith, nat_tests)
right_out pair (pos t) = grind (arith, nat_tests)
right_out pair (negsuc t) = grind (arith, nat_tests)

right_changed : (w : Width) (z : ℤ) → Small (sign_bit w) z → (not (fits w z) || exclusive_or (sign_of (sign_bit w) (wrapped (2 * sign_bit w) z)) (sign_of (sign_bit w) (wrapped (2 * sign_bit w) (int_shr z 1)))) ≡ not (fits w (int_shr z 1))
right_changed word (pos t) h = grind (arith, nat_tests)
right_changed word (negsuc t) h = grind (arith, nat_tests)
right_changed pair (pos t) h = grind (arith, nat_tests)
right_changed pair (negsuc t) h = grind (arith, nat_tests)

right_step : (w : Width) (z : ℤ) (b : Bool) → Small (sign_bit w) z → step_right (sign_bit w) (form w z b) ≡ form w (int_shr z 1) (is_odd z)
right_step w z b h =
    same_shifting _ _ _ _ _ _ (right_value w z h) (right_out w z)
    (ap (λ n. not (fits w z) || exclusive_or (sign_of (sign_bit w) (wrapped (2 * sign_bit w) z)) (sign_of (sign_bit w) n)) (right_value w z h) ∙ right_changed w z h)

small_halved : (h : ℕ) (z : ℤ) (n : ℕ) → Small h z → Small h (int_shr z n)
small_halved h (pos a) n s = let e : a / 2 ^ n ≤ a = shr_le a n in omega arith
small_halved h (negsuc a) n s = let e : a / 2 ^ n ≤ a = shr_le a n in omega arith

-- ---- in a row

small_fits : (w : Width) (z : ℤ) → Small (sign_bit w) z → false ≡ not (fits w z)
small_fits word (pos a) h = grind (arith, nat_tests)
small_fits word (negsuc a) h = grind (arith, nat_tests)
small_fits pair (pos a) h = grind (arith, nat_tests)
small_fits pair (negsuc a) h = grind (arith, nat_tests)

start : (w : Width) (z : ℤ) (x : ℕ) → Small (sign_bit w) z → x ≡ wrapped (2 * sign_bit w) z → start_of x ≡ form w z false
start w z x h e = same_shifting _ _ _ _ _ _ e refl (small_fits w z h)

lefts : (w : Width) (z : ℤ) (x n : ℕ) → Small (sign_bit w) z → x ≡ wrapped (2 * sign_bit w) z → times (step_left (sign_bit w)) n (start_of x) ≡ form w (z *ℤ pos (2 ^ n)) (out_at_once (bits_of w) (pos n) z)
lefts w z x zero h e = start w z x h e ∙ ap (λ y. form w y false) (sym (times_one z))
lefts w z x (suc n) h e =
    ap (step_left (sign_bit w)) (lefts w z x n h e)
    ∙ left_step w (z *ℤ pos (2 ^ n)) (out_at_once (bits_of w) (pos n) z)
    ∙ ap (λ y. form w y (is_odd (int_shr y (bits_of w)))) (twice z n)

-- the bit that goes out last to the right
abbrev out_right : ℤ → ℕ → Bool
out_right z zero = false
out_right z (suc n) = is_odd (int_shr z n)

rights : (w : Width) (z : ℤ) (x n : ℕ) → Small (sign_bit w) z → x ≡ wrapped (2 * sign_bit w) z → times (step_right (sign_bit w)) n (start_of x) ≡ form w (int_shr z n) (out_right z n)
rights w z x zero h e = start w z x h e ∙ ap (λ y. form w y false) (sym (halved_none z))
rights w z x (suc n) h e =
    ap (step_right (sign_bit w)) (rights w z x n h e)
    ∙ right_step w (int_shr z n) (out_right z n) (small_halved (sign_bit w) z n h)
    ∙ ap (λ y. form w y (is_odd (int_shr z n))) (halved_more z n)

pub shifted_by-form : (w : Width) (c z : ℤ) (x : ℕ) → Small (sign_bit w) z → x ≡ wrapped (2 * sign_bit w) z → shifted_by (sign_bit w) c x ≡ form w (number_at_once c z) (out_at_once (bits_of w) c z)
shifted_by-form w (pos n) z x h e = lefts w z x n h e
shifted_by-form w (negsuc n) z x h e = rights w z x (suc n) h e

-- ---- from the bits of a number

from_pos : (w : Width) (x : ℕ) → x < sign_bit w → (twos_complement (sign_bit w) x ≡ pos x) × (x ≡ wrapped (2 * sign_bit w) (pos x))
from_pos word x h = (grind (arith, nat_tests), omega arith)
from_pos pair x h = (grind (arith, nat_tests), omega arith)

from_negsuc : (w : Width) (x : ℕ) → sign_bit w ≤ x → x < 2 * sign_bit w → (twos_complement (sign_bit w) x ≡ negsuc (2 * sign_bit w - 1 - x)) × (2 * sign_bit w - 1 - x < sign_bit w) × (x ≡ wrapped (2 * sign_bit w) (negsuc (2 * sign_bit w - 1 - x)))
from_negsuc word x g h = (grind (arith, nat_tests, ints), omega arith, omega arith)
from_negsuc pair x g h = (grind (arith, nat_tests, ints), omega arith, omega arith)

abbrev Starts : Width → ℕ → ℤ → Type 0
Starts w x z = Small (sign_bit w) z × (x ≡ wrapped (2 * sign_bit w) z)

pub small_value : (w : Width) (x : ℕ) → x < 2 * sign_bit w → Starts w x (twos_complement (sign_bit w) x)
small_value w x h =
    elim (cases_lt x (sign_bit w)) [
      | inl l ↦ let p = from_pos w x l in subst (Starts w x) (sym p.0) (l, p.1)
      | inr g ↦ let p = from_negsuc w x g h in subst (Starts w x) (sym p.0) (p.1, p.2)
    ]

-- ---- from the bits of a count

pub count_to_left : (count p : ℕ) → p ≡ bit_and count 63 → p < 32 → count_of count ≡ pos p
count_to_left count p e h =
    let m : bit_and count 63 ≡ count % 64 = and_mask count 6 in
    let q : p ≡ count % 64 = e ∙ m in
    rw (← q) (grind (arith, nat_tests))

out_of_left : (bits p : ℕ) (z : ℤ) → p ≢ 0 → out_at_once bits (pos p) z ≡ is_odd (int_shr (z *ℤ pos (2 ^ p)) bits)
out_of_left bits zero z h = absurd (h refl)
out_of_left bits (suc p) z h = refl

pub out_to_left : (bits count p : ℕ) (z : ℤ) → p ≡ bit_and count 63 → p ≢ 0 → p < 32 → out_at_once bits (count_of count) z ≡ is_odd (int_shr (z *ℤ pos (2 ^ p)) bits)
out_to_left bits count p z e h k = rw (count_to_left count p e k) (out_of_left bits p z h)

-- ---- what ASH and ASHC compute

pub ash_computed : (x count r : ℕ) (z wide : ℤ) (s f o : Bool) → x < 65536 → z ≡ sval Word x → wide ≡ number_at_once (count_of count) z → o ≡ out_at_once 16 (count_of count) z → r ≡ wrapped 65536 wide → s ≡ int_lt (sval Word r) (pos 0) → f ≡ fits_word wide → ◌≡◌ {A = ℕ × Codes} (r, record { n = s; z = nat_eq r 0; v = not f; c = o }) (ash_of x count)
unfolding ash_of
ash_computed x count r z wide s f o h value left out low sign fitting =
    let start = small_value word x h in
    let at_once : shifted_by 32768 (count_of count) x ≡ form word wide o =
    shifted_by-form word (count_of count) (sval Word x) x start.0 start.1 ∙ rw (left, out, value) refl in
    rw (at_once, sign, fitting, low) refl

pub ashc_computed : (p q : Pair) (count : ℕ) (z wide : ℤ) (f o : Bool) → number_of p < 4294967296 → z ≡ pair_value p → wide ≡ number_at_once (count_of count) z → o ≡ out_at_once 32 (count_of count) z → q ≡ pair_of (wrapped 4294967296 wide) → f ≡ fits_pair wide → ◌≡◌ {A = Pair × Codes} (q, record { n = int_lt (pair_value q) (pos 0); z = nat_eq (number_of q) 0; v = not f; c = o }) (ashc_of p count)
unfolding ashc_of
ashc_computed p q count z wide f o h value left out low fitting =
    let start = small_value pair (number_of p) h in
    let at_once : shifted_by 2147483648 (count_of count) (number_of p) ≡ form pair wide o =
    shifted_by-form pair (count_of count) (pair_value p) (number_of p) start.0 start.1 ∙ rw (left, out, value) refl in
    let whole : number_of (pair_of (wrapped 4294967296 wide)) ≡ wrapped 4294967296 wide = omega arith in
    rw (at_once, fitting, low, whole) refl
