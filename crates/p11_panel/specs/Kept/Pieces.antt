-- The bytes of a script, cut at each LF (10): the pieces that one ended, and the last piece.
use Rattle.std.specs.Prelude.{ℕ, nat_eq, List, [], ◌∷◌, if◌then◌else◌}

pub record Pieces : Type 0 where
  pub ended : List (List ℕ)
  pub last : List ℕ

-- with a byte in front
abbrev pub in_front : ℕ → List (List ℕ) → List ℕ → Pieces
in_front byte [] last = record { ended = []; last = byte ∷ last }
in_front byte (piece ∷ pieces) last = record { ended = (byte ∷ piece) ∷ pieces; last = last }

unfoldable pub cut_at_lf : List ℕ → Pieces
cut_at_lf [] = record { ended = []; last = [] }
cut_at_lf (byte ∷ bytes) =
    if nat_eq byte 10 then record { ended = [] ∷ (cut_at_lf bytes).ended; last = (cut_at_lf bytes).last }
    else in_front byte (cut_at_lf bytes).ended (cut_at_lf bytes).last
