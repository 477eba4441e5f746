-- There is one quotient with a remainder, and it is what `/` and `%` give.
use Rattle.std.proofs.Common.{◌≡◌, ◌≢◌, ◌⊎◌, inl, inr, ℕ, zero, suc, ◌*◌, ◌%◌, ◌<◌, false, int_lt, ℤ, pos, negsuc, neg_ℤ, ◌+ℤ◌, ◌-ℤ◌, ◌*ℤ◌, int_div, int_rem, unsigned_abs, refl, arith, ap, sym, subst, ◌∙◌}
use Rattle.std.proofs.lemmas.Bool.Decides.{nat_tests}
use Rattle.std.proofs.lemmas.Int.{ints, quot-rem, rem_below, unsigned_abs-mul}
use Rattle.std.proofs.Math.IntN.{ℤ_ind, suc_ℤ, pred_ℤ, suc_ℤ-*ℤ, pred_ℤ-*ℤ, zero-*ℤ, suc_ℤ-+ℤ, pred_ℤ-+ℤ, +ℤ_idl, +ℤ_one, -ℤ_one, -ℤ-+ℤ_cancel}
use Rattle.p11_alu.specs.declared.quotient.Quotient.{Quotient}
use Rattle.p11_alu.specs.Calls.Quotients.{IsQuotient}
use Rattle.p11_alu.specs.Products.{answer_with}

-- ---- there is one

never_negative : (n : ℕ) → int_lt (pos n) (pos 0) ≡ false
never_negative n = grind (arith, nat_tests)

sign_of-neg_ℤ : (n : ℕ) (a : ℕ) → (neg_ℤ (pos n) ≡ pos 0) ⊎ (int_lt (neg_ℤ (pos n)) (pos 0) ≡ int_lt (negsuc a) (pos 0))
sign_of-neg_ℤ zero a = inl refl
sign_of-neg_ℤ (suc n) a = inr refl

sign_of-int_rem : (a d : ℤ) → (int_rem a d ≡ pos 0) ⊎ (int_lt (int_rem a d) (pos 0) ≡ int_lt a (pos 0))
sign_of-int_rem (pos a) (pos d) = inr (never_negative (a % d) ∙ sym (never_negative a))
sign_of-int_rem (pos a) (negsuc d) = inr (never_negative (a % suc d) ∙ sym (never_negative a))
sign_of-int_rem (negsuc a) (pos d) = sign_of-neg_ℤ (suc a % d) a
sign_of-int_rem (negsuc a) (negsuc d) = sign_of-neg_ℤ (suc a % suc d) a

some_abs : (d : ℤ) → d ≢ pos 0 → 0 < unsigned_abs d
some_abs (pos zero) h = absurd (h refl)
some_abs (pos (suc n)) h = omega arith
some_abs (negsuc n) h = omega arith

pub there_is_one : (a d : ℤ) → d ≢ pos 0 → IsQuotient a d (int_div a d) (int_rem a d)
there_is_one a d h = record { whole = quot-rem a d; small = rem_below a d (some_abs d h); sign = sign_of-int_rem a d }

-- ---- there is no other

-- a product of a sum is the sum of the products, for a first summand m
abbrev Splits : ℤ → ℤ → ℤ → Type 0
Splits k d m = (m +ℤ k) *ℤ d ≡ m *ℤ d +ℤ k *ℤ d

one_more : (x y z d : ℤ) → x ≡ y +ℤ z → x +ℤ d ≡ (y +ℤ d) +ℤ z
one_more x y z d e = omega (arith, ints)

one_less : (x y z d : ℤ) → x ≡ y +ℤ z → x -ℤ d ≡ (y -ℤ d) +ℤ z
one_less x y z d e = omega (arith, ints)

splits-suc_ℤ : (k d m : ℤ) → Splits k d m → Splits k d (suc_ℤ m)
splits-suc_ℤ k d m e =
    rw (suc_ℤ-+ℤ m k, suc_ℤ-*ℤ (m +ℤ k) d, suc_ℤ-*ℤ m d) (one_more _ _ _ d e)

splits-pred_ℤ : (k d m : ℤ) → Splits k d m → Splits k d (pred_ℤ m)
splits-pred_ℤ k d m e =
    rw (pred_ℤ-+ℤ m k, pred_ℤ-*ℤ (m +ℤ k) d, pred_ℤ-*ℤ m d) (one_less _ _ _ d e)

splits_zero : (k d : ℤ) → Splits k d (pos zero)
splits_zero k d = rw (+ℤ_idl k, zero-*ℤ d, +ℤ_idl (k *ℤ d)) refl

pub add-mul : (m k d : ℤ) → (m +ℤ k) *ℤ d ≡ m *ℤ d +ℤ k *ℤ d
add-mul m k d =
    ℤ_ind (Splits k d) (splits_zero k d)
    (λ n e. subst (Splits k d) (sym (+ℤ_one (pos n))) (splits-suc_ℤ k d (pos n) e))
    (λ n e. subst (Splits k d) (sym (-ℤ_one (neg_ℤ (pos n)))) (splits-pred_ℤ k d (neg_ℤ (pos n)) e))
    m

-- two remainders are nearer to each other than the divisor is to 0
near : (a r s : ℤ) (n : ℕ) → (r ≡ pos 0) ⊎ (int_lt r (pos 0) ≡ int_lt a (pos 0)) → (s ≡ pos 0) ⊎ (int_lt s (pos 0) ≡ int_lt a (pos 0)) → unsigned_abs r < n → unsigned_abs s < n → unsigned_abs (s -ℤ r) < n
near a r s n p q h k = grind (arith, ints)

below_one : (k n x : ℕ) → k * n ≡ x → x < n → k ≡ 0
below_one zero n x e h = refl
below_one (suc k) n x e h = omega arith

zero_abs : (z : ℤ) → unsigned_abs z ≡ 0 → z ≡ pos 0
zero_abs (pos n) e = ap pos e
zero_abs (negsuc n) e = let f : suc n ≡ 0 = e in absurd (omega arith)

difference_of : (x y z r s : ℤ) → z ≡ x +ℤ y → z +ℤ r ≡ y +ℤ s → x ≡ s -ℤ r
difference_of x y z r s e f = omega (arith, ints)

rest_of : (x y r s : ℤ) → x ≡ y → x +ℤ r ≡ y +ℤ s → r ≡ s
rest_of x y r s e f = omega (arith, ints)

pub at_most_one : (a d q r q' r' : ℤ) → IsQuotient a d q r → IsQuotient a d q' r' → (q ≡ q') × (r ≡ r')
at_most_one a d q r q' r' f g =
    let split : q *ℤ d ≡ (q -ℤ q') *ℤ d +ℤ q' *ℤ d =
    ap (λ x. x *ℤ d) (sym (-ℤ-+ℤ_cancel q q')) ∙ add-mul (q -ℤ q') q' d in
    let far : (q -ℤ q') *ℤ d ≡ r' -ℤ r =
    difference_of _ _ _ r r' split (f.whole ∙ sym g.whole) in
    let size : unsigned_abs (q -ℤ q') * unsigned_abs d ≡ unsigned_abs (r' -ℤ r) =
    sym (unsigned_abs-mul (q -ℤ q') d) ∙ ap unsigned_abs far in
    let none : q -ℤ q' ≡ pos 0 =
    zero_abs _ (below_one _ _ _ size (near a r r' (unsigned_abs d) f.sign g.sign f.small g.small)) in
    let same : q ≡ q' = omega (arith, ints) in
    (same, rest_of (q *ℤ d) (q' *ℤ d) r r' (ap (λ x. x *ℤ d) same) (f.whole ∙ sym g.whole))

-- ---- what DIV stores is the quotient and the remainder of the relation

not_zero : (d r : ℤ) → unsigned_abs r < unsigned_abs d → d ≢ pos 0
not_zero d r h = λ e. let z : unsigned_abs d ≡ 0 = ap unsigned_abs e in omega arith

pub stored_quotient : (a d q r : ℤ) (s : Quotient) → s ≡ answer_with (int_div a d) (int_rem a d) → IsQuotient a d q r → s ≡ answer_with q r
stored_quotient a d q r s e f =
    let same = at_most_one a d (int_div a d) (int_rem a d) q r (there_is_one a d (not_zero d r f.small)) f in
    e ∙ ap (λ x. answer_with x (int_rem a d)) same.0 ∙ ap (λ y. answer_with q y) same.1
