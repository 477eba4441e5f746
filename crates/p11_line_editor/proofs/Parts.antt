-- Parts of texts, and the lines of a history that have them.
use Rattle.std.proofs.Common.{◌≡◌, ℕ, ◌+◌, ◌<◌, ◌≤◌, true, false, nat_eq, List, [], ◌∷◌, length, drop, Some, None, refl, arith, add-one}
use Rattle.std.proofs.Math.Seq.{drop-cons}
use Rattle.std.proofs.lemmas.List.{drop_all}
use Rattle.std.proofs.lemmas.Option.{slice_get_within, get_or_from_slice_get}
use Rattle.std.specs.List.{starts_with, slice_get}
use Rattle.p11_line_editor.specs.History.{contains, found_from}

-- a text that begins with the part has it
pub contains_here : (part text : List ℕ) → starts_with nat_eq text part ≡ true → contains part text ≡ true
contains_here part [] here = here
contains_here part (byte ∷ rest) here = rw here refl

-- one that doesn't has it if what is behind the first byte has it
pub contains_behind : (part text : List ℕ) → 0 < length text → starts_with nat_eq text part ≡ false → contains part (drop 1 text) ≡ contains part text
contains_behind part [] some here = absurd (omega arith)
contains_behind part (byte ∷ rest) some here = rw here refl

pub contains_nothing : (part text : List ℕ) → length text ≡ 0 → starts_with nat_eq text part ≡ false → contains part text ≡ false
contains_nothing part [] none here = here
contains_nothing part (byte ∷ rest) none here = absurd (omega arith)

-- the line so many back has the part
pub found_here : (part line : List ℕ) (lines : List (List ℕ)) (back : ℕ) → slice_get lines back ≡ Some line → contains part line ≡ true → found_from part back lines ≡ Some back
found_here part line lines back at has =
    let within : back < length lines = slice_get_within lines back line at in
    rw (drop-cons lines back [] within, get_or_from_slice_get lines back line [] at, has) refl

pub found_behind : (part line : List ℕ) (lines : List (List ℕ)) (back : ℕ) → slice_get lines back ≡ Some line → contains part line ≡ false → found_from part (back + 1) lines ≡ found_from part back lines
found_behind part line lines back at has =
    let within : back < length lines = slice_get_within lines back line at in
    rw (drop-cons lines back [] within, get_or_from_slice_get lines back line [] at, has, add-one) refl

pub found_none : (part : List ℕ) (lines : List (List ℕ)) (back : ℕ) → length lines ≤ back → found_from part back lines ≡ None
found_none part lines back past = rw (drop_all back lines past) refl
