-- The words of a text, one after the other.
use Rattle.std.proofs.Common.{◌≡◌, ℕ, zero, suc, ◌+◌, ◌-◌, ◌<◌, ◌≤◌, Bool, true, false, not, List, [], ◌∷◌, ◌++◌, length, take, drop, get_or, refl, sym, ap, subst, ◌∙◌, add-one, drop-cons, take-append-drop, inl, inr, arith, All}
use Rattle.std.specs.List.{position_or_len}
use Rattle.std.specs.Prelude.{filter, nat_lt, Some, None, position}
use Rattle.std.proofs.lemmas.Bool.{cases_Bool, not-true, not-false, ltb-false}
use Rattle.std.proofs.lemmas.Bool.Decides.{nat_tests}
use Rattle.std.proofs.lemmas.List.{length-drop, length-take, take_all, drop_all, get_or-drop, get_or-take}
use Rattle.std.proofs.lemmas.List.Quantifiers.{position-Some}
use Rattle.std.proofs.lemmas.List.Sums.{fails_before_first}
use Rattle.std.proofs.lemmas.List.Splits.{slice_split_none, slice_split_at, slice_split-cons_yes}
use Rattle.p11_lines.specs.Grammar.{is_blank, is_word, words_of}

-- a byte of a word
abbrev pub is_graph : ℕ → Bool
is_graph byte = not (is_blank byte)

pub words_of-nil : words_of [] ≡ []
unfolding words_of
words_of-nil = refl

-- a blank at the front doesn't count
pub words_of-blank : (byte : ℕ) (rest : List ℕ) → is_blank byte ≡ true → words_of (byte ∷ rest) ≡ words_of rest
unfolding words_of
words_of-blank byte rest blank = ap (filter is_word) (slice_split-cons_yes is_blank byte rest blank)

-- the word at the front, which a blank ends
pub words_of-word : (word : List ℕ) (byte : ℕ) (rest : List ℕ) → All (λ b. is_blank b ≡ false) word → 0 < length word → is_blank byte ≡ true → words_of (word ++ byte ∷ rest) ≡ word ∷ words_of rest
unfolding words_of
words_of-word word byte rest graphs some blank =
    let test : is_word word ≡ true = grind (arith, nat_tests) in
    rw (slice_split_at is_blank word byte rest graphs blank, test) refl

-- the last word
pub words_of-last : (word : List ℕ) → All (λ b. is_blank b ≡ false) word → 0 < length word → words_of word ≡ word ∷ []
unfolding words_of
words_of-last word graphs some =
    let test : is_word word ≡ true = grind (arith, nat_tests) in
    rw (slice_split_none is_blank word graphs, test) refl

-- blanks at the front don't count
words_of-blanks : (n : ℕ) (text : List ℕ) → n ≤ length text → ((k : ℕ) → k < n → is_graph (get_or text k 0) ≡ false) → words_of text ≡ words_of (drop n text)
words_of-blanks zero text within blanks = refl
words_of-blanks (suc n) [] within blanks = absurd (omega (arith, within))
words_of-blanks (suc n) (byte ∷ rest) within blanks =
    words_of-blank byte rest (not-false _ (blanks 0 (omega arith)))
    ∙ words_of-blanks n rest (omega (arith, within)) (λ k below. blanks (suc k) (omega (arith, below)))

-- where no byte passes
position_none : (p : ℕ → Bool) (xs : List ℕ) → None ≡ position p xs → length xs ≤ position_or_len p xs
position_none p xs none =
    elim (cases_Bool (nat_lt (position_or_len p xs) (length xs))) [
      | inl less ↦ let same : None ≡ Some (position_or_len p xs) = none ∙ rw less refl in cc
      | inr not_less ↦ ltb-false _ _ not_less
    ]

-- what `&text[n..]` is
pub rest_from : (n : ℕ) (text : List ℕ) → take (length text - n) (drop n text) ≡ drop n text
rest_from n text = take_all (length text - n) (drop n text) (omega (arith, length-drop n text))

-- all is blank
pub next_none : (text : List ℕ) → None ≡ position is_graph text → words_of text ≡ []
next_none text none =
    words_of-blanks (length text) text (omega arith) (λ k below. fails_before_first is_graph text k 0 (omega (arith, below, position_none is_graph text none)))
    ∙ ap words_of (drop_all (length text) text (omega arith)) ∙ words_of-nil

-- the bytes from the first that is no blank on
rest_graph : (text rest : List ℕ) (n : ℕ) → Some n ≡ position is_graph text → rest ≡ drop n text
    → (words_of text ≡ words_of rest) × (0 < length rest) × (length rest ≤ length text) × (is_blank (get_or rest 0 0) ≡ false)
rest_graph text rest n found rest_is =
    let at = position-Some is_graph text n 0 (sym found) in
    let same : get_or rest 0 0 ≡ get_or text n 0 = rw (rest_is, get_or-drop) (ap (λ (k : ℕ). get_or text k 0) (omega arith)) in (
      words_of-blanks n text (omega (arith, at.0)) at.2 ∙ ap words_of (sym rest_is),
      omega (arith, at.0, length-drop n text, ap length rest_is),
      omega (arith, length-drop n text, ap length rest_is),
      subst (λ (x : ℕ). is_blank x ≡ false) (sym same) (not-true _ at.1),
    )

-- the last word
pub next_last : (text rest : List ℕ) (n : ℕ) → Some n ≡ position is_graph text → rest ≡ drop n text → None ≡ position is_blank rest → words_of text ≡ rest ∷ words_of []
next_last text rest n found rest_is none =
    let front = rest_graph text rest n found rest_is in
    let graphs : All (λ b. is_blank b ≡ false) rest = λ k d below. fails_before_first is_blank rest k d (omega (arith, below, position_none is_blank rest none)) in
    front.0 ∙ words_of-last rest graphs front.1 ∙ ap (λ (ws : List (List ℕ)). rest ∷ ws) (sym words_of-nil)

-- a word that a blank ends, and what follows it
pub next_some : (text rest word after : List ℕ) (n k : ℕ) → Some n ≡ position is_graph text → rest ≡ drop n text → Some k ≡ position is_blank rest → word ≡ take k rest → after ≡ drop k rest
    → (words_of text ≡ word ∷ words_of after) × (length after < length text)
next_some text rest word after n k found rest_is ends word_is after_is =
    let front = rest_graph text rest n found rest_is in
    let end = position-Some is_blank rest k 0 (sym ends) in
    let after_cons : after ≡ get_or rest k 0 ∷ drop (k + 1) rest = after_is ∙ rw add-one (drop-cons rest k 0 end.0) in
    let split : rest ≡ word ++ get_or rest k 0 ∷ drop (k + 1) rest = sym (take-append-drop k rest) ∙ (λ i. sym word_is i ++ (sym after_is ∙ after_cons) i) in
    let graphs : All (λ b. is_blank b ≡ false) word = subst (All (λ b. is_blank b ≡ false)) (sym word_is) (λ j d below.
    let before : j < k = omega (arith, below, length-take k rest) in
    rw (get_or-take k rest j d before) ((position-Some is_blank rest k d (sym ends)).2 j before)) in
    let some : 0 < k = first_after rest k end.1 front.3 in
    let long : 0 < length word = omega (arith, end.0, length-take k rest, ap length word_is) in (
      front.0 ∙ ap words_of split ∙ words_of-word word (get_or rest k 0) (drop (k + 1) rest) graphs long end.1
          ∙ ap (λ (ws : List (List ℕ)). word ∷ ws) (sym (words_of-blank (get_or rest k 0) (drop (k + 1) rest) end.1) ∙ ap words_of (sym after_cons)),
      omega (arith, some, front.1, front.2, length-drop k rest, ap length after_is),
    )
  where
    first_after : (rest : List ℕ) (k : ℕ) → is_blank (get_or rest k 0) ≡ true → is_blank (get_or rest 0 0) ≡ false → 0 < k
    first_after rest zero blank graph = let no : true ≡ false = sym blank ∙ graph in cc
    first_after rest (suc k) blank graph = omega arith
