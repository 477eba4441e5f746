-- Powers of 2 times a signed number.
use Rattle.std.proofs.Common.{◌≡◌, ℕ, suc, ◌+◌, ◌*◌, ◌/◌, ◌^◌, ◌<◌, ◌≤◌, ℤ, pos, negsuc, neg_ℤ, ◌+ℤ◌, ◌*ℤ◌, ◌≤ℤ◌, ◌<ℤ◌, unsigned_abs, FitsSigned, w64, arith, ap, sym, ◌∙◌, add-one}
use Rattle.std.specs.Int.{int_shr}
use Rattle.std.proofs.lemmas.Int.{ints, fits_signed_mul}
use Rattle.std.proofs.lemmas.Nat.{pow_below, shr-shr}
use Rattle.std.proofs.Math.Nat.{pow-suc}
use Rattle.std.proofs.Math.IntN.{negsuc-*ℤ-pos, *ℤ_comm}
use Rattle.p11_alu.proofs.Quotients.{add-mul}

abs_below : (z : ℤ) → neg_ℤ (pos 2147483648) ≤ℤ z → z <ℤ pos 2147483648 → unsigned_abs z ≤ 2147483648
abs_below z l h = omega (arith, ints)

pub power_fits : (z : ℤ) (k : ℕ) → neg_ℤ (pos 2147483648) ≤ℤ z → z <ℤ pos 2147483648 → k < 32 → FitsSigned w64 (z *ℤ pos (2 ^ k))
power_fits z k l h few =
    let p : 2 ^ k < 2 ^ 32 = pow_below k 32 few in
    fits_signed_mul w64 z (pos (2 ^ k)) 2147483648 4294967295 (abs_below z l h) (omega arith) (omega arith)

pub times_one : (z : ℤ) → z *ℤ pos 1 ≡ z
times_one (pos a) = ap pos (omega arith)
times_one (negsuc a) =
    let e : suc a * 1 ≡ suc a = omega arith in
    negsuc-*ℤ-pos a 1 ∙ ap (λ x. neg_ℤ (pos x)) e

pub twice : (z : ℤ) (n : ℕ) → z *ℤ pos (2 ^ n) +ℤ z *ℤ pos (2 ^ n) ≡ z *ℤ pos (2 ^ suc n)
twice z n =
    let e : 2 ^ n + 2 ^ n ≡ 2 ^ suc n = rw (pow-suc 2 n) (omega arith) in
    let f : pos (2 ^ n) *ℤ z +ℤ pos (2 ^ n) *ℤ z ≡ pos (2 ^ n + 2 ^ n) *ℤ z = sym (add-mul (pos (2 ^ n)) (pos (2 ^ n)) z) in
    ap (λ x. x +ℤ x) (*ℤ_comm z (pos (2 ^ n))) ∙ f ∙ ap (λ x. pos x *ℤ z) e ∙ *ℤ_comm (pos (2 ^ suc n)) z

pub halved_none : (z : ℤ) → int_shr z 0 ≡ z
halved_none (pos a) = ap pos (omega arith)
halved_none (negsuc a) = ap negsuc (omega arith)

pub halved_more : (z : ℤ) (n : ℕ) → int_shr (int_shr z n) 1 ≡ int_shr z (suc n)
halved_more (pos a) n = ap pos (shr-shr a n 1 ∙ ap (λ k. a / 2 ^ k) (add-one n))
halved_more (negsuc a) n = ap negsuc (shr-shr a n 1 ∙ ap (λ k. a / 2 ^ k) (add-one n))
