-- Bytes behind zeros.
use Rattle.std.proofs.Common.{◌≡◌, ℕ, suc, zero, ◌<◌, List, [], ◌∷◌, ◌++◌, length, drop, take, ◌-◌, replicate, get_or, refl, ap, arith, ◌∙◌}
use Rattle.std.proofs.lemmas.List.{take_rest}

-- the rest lies behind zeros
pub record IsBehindZeros (bytes rest : List ℕ) : Type 0 where
  pub zeros : ℕ
  pub splits : bytes ≡ replicate zeros 0 ++ rest

pub behind_none : (bytes : List ℕ) → IsBehindZeros bytes bytes
behind_none bytes = record { zeros = 0; splits = refl }

zero_moved : (n : ℕ) (rest : List ℕ) → replicate n 0 ++ (0 ∷ rest) ≡ replicate (suc n) 0 ++ rest
zero_moved zero rest = refl
zero_moved (suc n) rest = ap (λ xs. 0 ∷ xs) (zero_moved n rest)

one_more : (bytes : List ℕ) (b : ℕ) (rest : List ℕ) → IsBehindZeros bytes (b ∷ rest) → b ≡ 0 → IsBehindZeros bytes rest
one_more bytes b rest h is_zero =
    record { zeros = suc h.zeros; splits = h.splits ∙ ap (λ x. replicate h.zeros 0 ++ (x ∷ rest)) is_zero ∙ zero_moved h.zeros rest }

pub behind_one_more : (bytes rest : List ℕ) → IsBehindZeros bytes rest → 0 < length rest → get_or rest 0 0 ≡ 0 → IsBehindZeros bytes (take (length rest - 1) (drop 1 rest))
behind_one_more bytes [] h some is_zero = absurd (omega arith)
behind_one_more bytes (b ∷ rest) h some is_zero =
    rw (take_rest (b ∷ rest) 1) (one_more bytes b rest h is_zero)
