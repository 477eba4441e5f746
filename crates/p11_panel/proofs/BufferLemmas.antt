-- What is kept of a line.
use Rattle.std.proofs.Common.{◌≡◌, ◌≤◌, ◌<◌, ◌+◌, ◌-◌, arith, ℕ, leb, eqb, ◌⊎◌, List, [], ◌∷◌, ◌++◌, length, take, get_or, Option, Some, None, refl, inl, inr}
use Rattle.std.proofs.lemmas.Bool.{cases_Bool, cases_lt, cases_eq, cases_cond, cond_both, leb-false, lt-ltb, le-leb, lt-leb, le-ltb}
use Rattle.std.proofs.lemmas.List.{length-take, length_push}
use Rattle.p11_panel.specs.Kept.Buffer.{kept, pushed}
use Rattle.p11_lines.specs.LineEnd.{without_cr}

none_some : {X : Type 0} {x : X} → ◌≡◌ {A = Option X} None (Some x) → ⊥
none_some e = cc

pub kept_nil : kept [] ≡ Some []
unfolding kept
kept_nil = refl

above : (n : ℕ) → 4097 ≤ n → (n ≡ 4097 → ⊥) → 4097 < n
above n le ne = omega arith

push_at : (piece : List ℕ) (b : ℕ) → (length piece < 4097) ⊎ (4097 ≤ length piece) → pushed (kept piece) b ≡ kept (piece ++ b ∷ [])
unfolding kept
push_at piece b (inl lt) = rw (le-leb (length piece) 4097 (omega arith), lt-ltb (length piece) 4097 lt, length_push piece b, le-leb (length piece + 1) 4097 (omega arith)) refl
push_at piece b (inr le) = elim (cases_eq (length piece) 4097) [
  | inl e ↦ rw (le-leb (length piece) 4097 (omega arith), le-ltb (length piece) 4097 le, length_push piece b, lt-leb (length piece + 1) 4097 (omega arith)) refl
  | inr ne ↦ rw (lt-leb (length piece) 4097 (above (length piece) le ne), length_push piece b, lt-leb (length piece + 1) 4097 (omega arith)) refl
]

-- one more byte
pub kept_push : (piece : List ℕ) (b : ℕ) → pushed (kept piece) b ≡ kept (piece ++ b ∷ [])
kept_push piece b = push_at piece b (cases_lt (length piece) 4097)

-- what is kept is the line
pub kept_is : (piece bytes : List ℕ) → Some bytes ≡ kept piece → bytes ≡ piece
unfolding kept
kept_is piece bytes e = elim (cases_cond (leb (length piece) 4097) (Some piece) None (Some bytes) e) [ inl h ↦ cc | inr h ↦ absurd cc ]

none_long : (piece : List ℕ) → None ≡ kept piece → 4097 < length piece
unfolding kept
none_long piece e = elim (cases_Bool (leb (length piece) 4097)) [
  | inl h ↦ absurd (none_some (rw h at e))
  | inr h ↦ leb-false _ _ h
]

-- where nothing is kept the line is too long, with a CR at its end or without
pub none_too_long : (piece : List ℕ) → None ≡ kept piece → 4096 < length piece
none_too_long piece e = omega (arith, none_long piece e)

pub none_too_long_cut : (piece : List ℕ) → None ≡ kept piece → 4096 < length (without_cr piece)
unfolding without_cr
none_too_long_cut piece e =
    let long : 4097 < length piece = none_long piece e in
    cond_both (eqb (get_or piece (length piece - 1) 0) 13) (take (length piece - 1) piece) piece (λ (t : List ℕ). 4096 < length t) (λ _. omega (arith, length-take (length piece - 1) piece)) (λ _. omega arith)
