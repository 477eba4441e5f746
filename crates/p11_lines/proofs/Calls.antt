-- Writes, one after the other.
use Rattle.std.proofs.Common.{◌≡◌, ◌+◌, ℕ, Bool, true, List, [], ◌∷◌, ◌++◌, Option, None, Some, refl, sym, ap, ◌∙◌, append_assoc, append-nil, add-zero}
use Rattle.std.specs.Prelude.{replicate}
use Rattle.std.proofs.lemmas.List.{replicate-append-replicate}
use Rattle.std.specs.Io.KnownBytes.{Appends}
use Rattle.std.proofs.KnownBytes.{Appends-nil, Appends-trans}
use Rattle.p11_lines.specs.Writers.{WriterState, Writes, with_calls}

pub calls_none : {C : Type 0} (known : Option (List C)) → known ≡ with_calls known []
calls_none None = refl
calls_none (Some calls) = ap Some (sym (append-nil calls))

pub calls_more : {C : Type 0} (known : Option (List C)) (x y : List C) → with_calls (with_calls known x) y ≡ with_calls known (x ++ y)
calls_more None x y = refl
calls_more (Some calls) x y = ap Some (append_assoc calls x y)

counts_more : (m n : ℕ) (last : List Bool) → (replicate m true ++ []) ++ (replicate n true ++ last) ≡ replicate (m + n) true ++ last
counts_more m n last =
    ap (λ (t : List Bool). t ++ (replicate n true ++ last)) (append-nil (replicate m true))
    ∙ sym (append_assoc (replicate m true) (replicate n true) last)
    ∙ ap (λ (t : List Bool). t ++ last) (replicate-append-replicate m n true)

-- m calls that went well, and then n of them
pub calls_trans : (a b c : Option (List Bool)) (m n : ℕ) (last : List Bool) → b ≡ with_calls a (replicate m true ++ []) → c ≡ with_calls b (replicate n true ++ last) → c ≡ with_calls a (replicate (m + n) true ++ last)
calls_trans a b c m n last first second =
    second ∙ ap (λ (k : Option (List Bool)). with_calls k (replicate n true ++ last)) first
    ∙ calls_more a (replicate m true ++ []) (replicate n true ++ last)
    ∙ ap (λ (t : List Bool). with_calls a t) (counts_more m n last)

-- and then another one
pub calls_last : (a b c : Option (List Bool)) (m : ℕ) (call : Bool) → b ≡ with_calls a (replicate m true ++ []) → c ≡ with_calls b (call ∷ []) → c ≡ with_calls a (replicate m true ++ call ∷ [])
calls_last a b c m call first second =
    calls_trans a b c m 0 (call ∷ []) first second ∙ ap (λ (k : ℕ). with_calls a (replicate k true ++ call ∷ [])) (add-zero m)

-- nothing is written
pub Writes-none : (a : WriterState) → Writes a a [] []
Writes-none a = record { bytes = Appends-nil a.bytes; count = 0; writes = calls_none a.writes }

-- a text, and one after it
pub Writes-trans : (a b c : WriterState) (x y : List ℕ) (last : List Bool) → Writes a b x [] → Writes b c y last → Writes a c (x ++ y) last
Writes-trans a b c x y last first second = record {
  bytes = Appends-trans a.bytes b.bytes c.bytes x y first.bytes second.bytes;
  count = first.count + second.count;
  writes = calls_trans a.writes b.writes c.writes first.count second.count last first.writes second.writes;
}

-- one write that takes some
pub Writes-one : (a b : WriterState) (text : List ℕ) (took : Bool) → took ≡ true → Appends a.bytes b.bytes text → b.writes ≡ with_calls a.writes (took ∷ []) → Writes a b text []
Writes-one a b text took some bytes calls =
    record { bytes = bytes; count = 1; writes = calls ∙ ap (λ (t : Bool). with_calls a.writes (t ∷ [])) some }
