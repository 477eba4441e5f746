-- The front that texts have in common.
use Rattle.std.proofs.Common.{◌≡◌, ◌≢◌, ℕ, suc, ◌+◌, ◌<◌, ◌≤◌, true, false, nat_eq, List, [], ◌∷◌, ◌++◌, length, take, drop, get_or, map, ◌-◌, Bor, refl, sym, ap, ◌∙◌, append_assoc, add-one, arith}
use Rattle.std.proofs.Math.Seq.{take-suc, drop-cons}
use Rattle.std.proofs.lemmas.List.{append-nil, drop_all, take_all}
use Rattle.std.proofs.lemmas.Bool.Decides.{nat_tests}
use Rattle.std.specs.List.{fold}
use Rattle.p11_line_editor.specs.Completion.{common_front, common, completed, completed_by}
use Rattle.p11_line_editor.specs.declared.editor.Editor.{Editor}

-- what so many bytes that are alike leave to be seen
abbrev pub seen_so_far : List ℕ → List ℕ → ℕ → List ℕ
seen_so_far one other count = take count one ++ common_front (drop count one) (drop count other)

alike : (x y : ℕ) → x ≡ y → nat_eq x y ≡ true
alike x y same = grind (arith, nat_tests)

apart : (x y : ℕ) → x ≢ y → nat_eq x y ≡ false
apart x y differ = grind (arith, nat_tests)

pub front_more : (one other : List ℕ) (count : ℕ) → count < length one → count < length other → get_or one count 0 ≡ get_or other count 0
    → seen_so_far one other (count + 1) ≡ seen_so_far one other count
front_more one other count in_one in_other same =
    rw (add-one, take-suc one count 0 in_one, drop-cons one count 0 in_one, drop-cons other count 0 in_other, alike _ _ same)
    (append_assoc (take count one) (get_or one count 0 ∷ []) (common_front (drop (suc count) one) (drop (suc count) other)))

pub front_ends : (one other : List ℕ) (count : ℕ) → length one ≤ count → seen_so_far one other count ≡ take count one
front_ends one other count past = rw (drop_all count one past) (append-nil (take count one))

common_front-nil : (one : List ℕ) → common_front one [] ≡ []
common_front-nil [] = refl
common_front-nil (byte ∷ one) = refl

pub front_ends_there : (one other : List ℕ) (count : ℕ) → length other ≤ count → seen_so_far one other count ≡ take count one
front_ends_there one other count past =
    rw (drop_all count other past, common_front-nil (drop count one)) (append-nil (take count one))

pub front_differs : (one other : List ℕ) (count : ℕ) → count < length one → count < length other → get_or one count 0 ≢ get_or other count 0
    → seen_so_far one other count ≡ take count one
front_differs one other count in_one in_other differ =
    rw (drop-cons one count 0 in_one, drop-cons other count 0 in_other, apart _ _ differ) (append-nil (take count one))

-- the front that all have in common, of words that are lent
pub common_lent : {B : Type 0} (now : B → List ℕ) (first : List ℕ) (others : List B)
    → fold (λ front word. common_front front (now word)) first others ≡ common first (map now others)
common_lent now first [] = refl
common_lent now first (word ∷ others) = common_lent now (common_front first (now word)) others

-- what completes a word, of candidates that are lent
pub completed_lent : (candidates : List (Bor (List ℕ))) (none : Bor (List ℕ)) (shared : List ℕ) (editor : Editor)
    → false ≡ nat_eq (length candidates) 0
    → shared ≡ fold (λ front word. common_front front word.now) (get_or candidates 0 none).now (take (length candidates - 1) (drop 1 candidates))
    → completed (map (λ word. word.now) candidates) editor ≡ completed_by shared editor
completed_lent [] none shared editor some is = cc
completed_lent (first ∷ others) none shared editor some is =
    let whole : take (length (first ∷ others) - 1) others ≡ others = take_all _ others (omega arith) in
    ap (λ (text : List ℕ). completed_by text editor)
    (sym (is ∙ ap (λ (words : List (Bor (List ℕ))). fold (λ front word. common_front front word.now) first.now words) whole
    ∙ common_lent (λ word. word.now) first.now others))
