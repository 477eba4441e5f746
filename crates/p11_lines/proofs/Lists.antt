-- Words that are found one after the other.
use Rattle.std.proofs.Common.{◌≡◌, ℕ, List, [], ◌∷◌, ◌++◌, map, Option, Some, None, refl, sym, ap, append_assoc}
use Rattle.std.proofs.lemmas.List.{append-nil}
use Rattle.std.specs.List.{flat_map}
use Rattle.std.specs.Prelude.{option_and_then}
use Rattle.p11_lines.specs.Calls.LineText.{octal, with_spaces}

-- the words that were found, and then the rest, if there is one
abbrev pub found_before : List ℕ → Option (List ℕ) → Option (List ℕ)
found_before found None = None
found_before found (Some rest) = Some (found ++ rest)

pub found_before_more : (found : List ℕ) (word : ℕ) (rest : Option (List ℕ)) → found_before (found ++ word ∷ []) rest ≡ found_before found (option_and_then (λ words. Some (word ∷ words)) rest)
found_before_more found word None = refl
found_before_more found word (Some rest) = ap Some (append_assoc found (word ∷ []) rest)

pub found_before_all : (found : List ℕ) → found_before found (Some []) ≡ Some found
found_before_all found = ap Some (append-nil found)

-- words after a word
pub with_spaces_octals : (word : List ℕ) (words : List ℕ) → with_spaces (word ∷ map octal words) ≡ word ++ flat_map (λ more. 32 ∷ octal more) words
with_spaces_octals word [] = sym (append-nil word)
with_spaces_octals word (next ∷ words) = ap (λ (text : List ℕ). word ++ 32 ∷ text) (with_spaces_octals (octal next) words)
