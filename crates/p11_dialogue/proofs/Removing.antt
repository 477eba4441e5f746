-- Bytes that are taken out.
use Rattle.std.proofs.Common.{◌≡◌, ℕ, zero, suc, ◌+◌, ◌≤◌, List, [], ◌∷◌, ◌++◌, length, take, drop, refl, arith}

-- a byte behind a front that isn't there any more
pub drop_removed : (front place at : ℕ) (bytes : List ℕ) → at ≡ front + place → front ≤ length bytes → drop front (take at bytes ++ drop (at + 1) bytes) ≡ take place (drop front bytes) ++ drop (place + 1) (drop front bytes)
drop_removed zero place at bytes e h =
    let same : at ≡ place = omega (arith, e) in
    rw same refl
drop_removed (suc front) place zero bytes e h = absurd (omega (arith, e))
drop_removed (suc front) place (suc at) [] e h = absurd (omega (arith, h))
drop_removed (suc front) place (suc at) (byte ∷ bytes) e h =
    let next : suc at + 1 ≡ suc (at + 1) = omega arith in
    rw next (drop_removed front place at bytes (omega (arith, e)) (omega (arith, h)))
