-- The data bytes of a tape, one after another.
use Rattle.std.proofs.Common.{◌≡◌, ℕ, zero, suc, ◌+◌, ◌-◌, ◌<◌, ◌≤◌, List, [], ◌∷◌, Bool, true, false, length, take, drop, get_or, slice_index_or, refl, ◌∙◌, arith, inl, inr}
use Rattle.std.specs.Prelude.{◌&&◌}
use Rattle.std.proofs.lemmas.Bool.{cases_Bool}
use Rattle.std.proofs.lemmas.List.{length-drop, take_all}
use Rattle.std.proofs.lemmas.List.Folds.{list_all_at, list_all_more}
use Rattle.p11_cpu.specs.State.{State}
use Rattle.p11_cpu.specs.Operator.{holds_byte_of, put_byte_of}
use Rattle.p11_panel.specs.Tapes.{all_fit, loaded}

true_not_false : (b : Bool) → b ≡ true → b ≡ false → ⊥
true_not_false b e f = cc

-- one more of them fits
pub fits_more : (placed : List (ℕ × ℕ)) (i : ℕ) (d : ℕ × ℕ) (s : State) → i < length placed → all_fit (take i placed) s ≡ true → holds_byte_of (get_or placed i d).0 s ≡ true → all_fit (take (i + 1) placed) s ≡ true
unfolding all_fit
fits_more placed i d s h e f = rw (list_all_more (λ byte. holds_byte_of byte.0 s) placed i d h, e, f) refl

-- one that doesn't fit is enough
pub fits_not : (placed : List (ℕ × ℕ)) (i : ℕ) (d : ℕ × ℕ) (s : State) → i < length placed → holds_byte_of (get_or placed i d).0 s ≡ false → all_fit placed s ≡ false
unfolding all_fit
fits_not placed i d s h e = list_all_at (λ byte. holds_byte_of byte.0 s) placed i d h e

-- each of them fits
pub fits_at : (placed : List (ℕ × ℕ)) (i : ℕ) (d : ℕ × ℕ) (s : State) → i < length placed → all_fit placed s ≡ true → holds_byte_of (get_or placed i d).0 s ≡ true
fits_at placed i d s h e = elim (cases_Bool (holds_byte_of (get_or placed i d).0 s)) [
  | inl holds ↦ holds
  | inr lacks ↦ absurd (true_not_false (all_fit placed s) e (fits_not placed i d s h lacks))
]

-- what fits still fits once a byte is written
pub fits_kept : (placed : List (ℕ × ℕ)) (s s' : State) → ((a : ℕ) → holds_byte_of a s' ≡ holds_byte_of a s) → all_fit placed s' ≡ all_fit placed s
unfolding all_fit
fits_kept [] s s' same = refl
fits_kept (byte ∷ others) s s' same = rw (same byte.0, fits_kept others s s' same) refl

-- what is behind the first n of some bytes
behind : (n : ℕ) (placed : List (ℕ × ℕ)) → take (length placed - n) (drop n placed) ≡ drop n placed
behind n placed = take_all (length placed - n) (drop n placed) (rw (length-drop n placed) omega arith)

-- it fits
both : (a b : Bool) → a && b ≡ true → b ≡ true
both true b h = h
both false b h = cc h

fits_drop : (n : ℕ) (placed : List (ℕ × ℕ)) (s : State) → all_fit placed s ≡ true → all_fit (drop n placed) s ≡ true
unfolding all_fit
fits_drop zero placed s fit = fit
fits_drop (suc n) [] s fit = fit
fits_drop (suc n) (byte ∷ others) s fit = fits_drop n others s (both (holds_byte_of byte.0 s) _ fit)

pub fits_behind : (n : ℕ) (placed : List (ℕ × ℕ)) (s s' : State) → all_fit placed s ≡ true → ((a : ℕ) → holds_byte_of a s' ≡ holds_byte_of a s) → all_fit (take (length placed - n) (drop n placed)) s' ≡ true
fits_behind n placed s s' fit same = rw (behind n placed) (fits_kept (drop n placed) s s' same ∙ fits_drop n placed s fit)

-- one byte is written, or two of a word
pub one_put : (placed : List (ℕ × ℕ)) (s s' : State) → 0 < length placed → s' ≡ put_byte_of (slice_index_or placed 0 (0, 0)).0 (slice_index_or placed 0 (0, 0)).1 s → loaded (take (length placed - 1) (drop 1 placed)) s' ≡ loaded placed s
unfolding loaded
one_put [] s s' some put = absurd (omega arith)
one_put (byte ∷ others) s s' some put = rw (behind 1 (byte ∷ others), put) refl

pub two_put : (placed : List (ℕ × ℕ)) (s s' : State) → 2 ≤ length placed → (slice_index_or placed 1 (0, 0)).0 ≡ (slice_index_or placed 0 (0, 0)).0 + 1 → s' ≡ put_byte_of ((slice_index_or placed 0 (0, 0)).0 + 1) (slice_index_or placed 1 (0, 0)).1 (put_byte_of (slice_index_or placed 0 (0, 0)).0 (slice_index_or placed 0 (0, 0)).1 s) → loaded (take (length placed - 2) (drop 2 placed)) s' ≡ loaded placed s
unfolding loaded
two_put [] s s' two next put = absurd (omega arith)
two_put (byte ∷ []) s s' two next put = absurd (omega arith)
two_put (low ∷ high ∷ others) s s' two next put = rw (behind 2 (low ∷ high ∷ others), put, next) refl
