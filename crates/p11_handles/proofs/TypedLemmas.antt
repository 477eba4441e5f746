-- What texts show of typed bytes, line by line.
use Rattle.std.proofs.Common.{◌≡◌, ◌≢◌, ℕ, zero, suc, ◌+◌, ◌-◌, ◌<◌, ◌≤◌, true, false, nat_eq, List, [], ◌∷◌, ◌++◌, length, take, drop, Some, None, refl, sym, ap, ◌∙◌, arith, append_assoc, append-nil, inl, inr, nat_lt}
use Rattle.std.proofs.lemmas.Bool.{cases_Bool}
use Rattle.std.proofs.lemmas.List.{take_all, length-drop}
use Rattle.std.specs.List.{position, position_or_len}
use Rattle.std.proofs.lemmas.Bool.Decides.{nat_tests}
use Rattle.std.specs.List.{flat_map}
use Rattle.p11_panel.specs.Kept.Pieces.{in_front, cut_at_lf}
use Rattle.p11_handles.specs.Typed.{escaped_value, written_past, written_in, typed_on, typed_in}

pub written_behind : (passed : ℕ) (text : List ℕ) → written_past passed text ≡ written_past 0 (drop passed text)
unfolding written_past
written_behind zero text = refl
written_behind (suc passed) [] = refl
written_behind (suc passed) (byte ∷ text) = written_behind passed text

same_test : (byte : ℕ) → byte ≡ 92 → nat_eq byte 92 ≡ true
same_test byte same = grind (arith, nat_tests)

other_test : (byte : ℕ) → byte ≢ 92 → nat_eq byte 92 ≡ false
other_test byte other = grind (arith, nat_tests)

-- an escape, and a byte that is itself
pub an_escape : (text : List ℕ) (byte : ℕ) (rest : List ℕ) → text ≡ byte ∷ rest → byte ≡ 92 → (value : ℕ) (after : List ℕ) → value ≡ escaped_value rest → after ≡ drop 3 rest → written_in text ≡ value ∷ written_in after
unfolding written_past
an_escape text byte rest is same value after value_is after_is = ap (λ (t : List ℕ). written_past 0 t) is ∙ rw (same_test byte same, written_behind 3 rest, value_is, after_is) refl

pub itself : (text : List ℕ) (byte : ℕ) (rest : List ℕ) → text ≡ byte ∷ rest → byte ≢ 92 → written_in text ≡ byte ∷ written_in rest
unfolding written_past
itself text byte rest is other = ap (λ (t : List ℕ). written_past 0 t) is ∙ rw (other_test byte other) refl

pub nothing_written : (text : List ℕ) → length text ≡ 0 → written_in text ≡ []
unfolding written_past
nothing_written [] none = refl
nothing_written (byte ∷ text) none = absurd (omega (arith, none))

-- a piece of a list is put behind what was put before, and the rest is left
pub moved : (put piece next rest whole : List ℕ) → put ++ rest ≡ whole → rest ≡ piece ++ next → (put ++ piece) ++ next ≡ whole
moved put piece next rest whole before split = append_assoc put piece next ∙ (ap (λ (l : List ℕ). put ++ l) (sym split) ∙ before)

pub all_moved : (put rest whole : List ℕ) → put ++ rest ≡ whole → rest ≡ [] → put ≡ whole
all_moved put rest whole before none = sym (append-nil put) ∙ (ap (λ (l : List ℕ). put ++ l) (sym none) ∙ before)

-- the first LF ends the first line
behind : (k : ℕ) (x : ℕ) (xs : List ℕ) → drop (1 + k + 1) (x ∷ xs) ≡ drop (k + 1) xs
behind k x xs = let e : 1 + k + 1 ≡ suc (k + 1) = omega arith in ap (λ (m : ℕ). drop m (x ∷ xs)) e

front : (k : ℕ) (x : ℕ) (xs : List ℕ) → take (1 + k) (x ∷ xs) ≡ x ∷ take k xs
front k x xs = let e : 1 + k ≡ suc k = omega arith in ap (λ (m : ℕ). take m (x ∷ xs)) e

lines_in_front : (x : ℕ) (piece : List ℕ) (ended pieces : List (List ℕ)) (last : List ℕ) → ended ≡ piece ∷ pieces → (in_front x ended last).ended ≡ (x ∷ piece) ∷ pieces
lines_in_front x piece ended pieces last is = ap (λ (e : List (List ℕ)). (in_front x e last).ended) is

pieces_at : (text : List ℕ) → position_or_len (λ byte. nat_eq byte 10) text < length text → (cut_at_lf text).ended ≡ take (position_or_len (λ byte. nat_eq byte 10) text) text ∷ (cut_at_lf (drop (position_or_len (λ byte. nat_eq byte 10) text + 1) text)).ended
unfolding cut_at_lf
pieces_at [] less = absurd (omega (arith, less))
pieces_at (x ∷ xs) less = elim (cases_Bool (nat_eq x 10)) [
  | inl lf ↦ rw lf refl
  | inr other ↦
      let k : ℕ = position_or_len (λ byte. nat_eq byte 10) xs in
      let below : k < length xs = let h = rw other at less in omega (arith, h) in
      let here : (in_front x (cut_at_lf xs).ended (cut_at_lf xs).last).ended ≡ (x ∷ take k xs) ∷ (cut_at_lf (drop (k + 1) xs)).ended = lines_in_front x (take k xs) (cut_at_lf xs).ended (cut_at_lf (drop (k + 1) xs)).ended (cut_at_lf xs).last (pieces_at xs below) in
      let there : (x ∷ take k xs) ∷ (cut_at_lf (drop (k + 1) xs)).ended ≡ take (1 + k) (x ∷ xs) ∷ (cut_at_lf (drop (1 + k + 1) (x ∷ xs))).ended =
      ap (λ (l : List ℕ). l ∷ (cut_at_lf (drop (k + 1) xs)).ended) (sym (front k x xs)) ∙ ap (λ (l : List ℕ). take (1 + k) (x ∷ xs) ∷ (cut_at_lf l).ended) (sym (behind k x xs)) in
      rw other (here ∙ there)
]

no_pieces : (text : List ℕ) → length text ≤ position_or_len (λ byte. nat_eq byte 10) text → (cut_at_lf text).ended ≡ []
unfolding cut_at_lf
no_pieces [] none = refl
no_pieces (x ∷ xs) none = elim (cases_Bool (nat_eq x 10)) [
  | inl lf ↦ let h = rw lf at none in absurd (omega (arith, h))
  | inr other ↦
      let above : length xs ≤ position_or_len (λ byte. nat_eq byte 10) xs = let h = rw other at none in omega (arith, h) in
      rw (other, no_pieces xs above) refl
]

position_is : (text : List ℕ) (end : ℕ) → Some end ≡ position (λ byte. nat_eq byte 10) text → (end ≡ position_or_len (λ byte. nat_eq byte 10) text) × (end < length text)
position_is text end found =
    elim (cases_Bool (nat_lt (position_or_len (λ byte. nat_eq byte 10) text) (length text))) [
      | inl less ↦
          let same : Some end ≡ Some (position_or_len (λ byte. nat_eq byte 10) text) = found ∙ rw less refl in
          let at : end ≡ position_or_len (λ byte. nat_eq byte 10) text = cc in
          (at, grind (arith, nat_tests))
      | inr not_less ↦ let none : Some end ≡ None = found ∙ rw not_less refl in cc
    ]

position_past : (text : List ℕ) → None ≡ position (λ byte. nat_eq byte 10) text → length text ≤ position_or_len (λ byte. nat_eq byte 10) text
position_past text none =
    elim (cases_Bool (nat_lt (position_or_len (λ byte. nat_eq byte 10) text) (length text))) [
      | inl less ↦ let same : None ≡ Some (position_or_len (λ byte. nat_eq byte 10) text) = none ∙ rw less refl in cc
      | inr not_less ↦ grind (arith, nat_tests)
    ]

pub first_line : (text : List ℕ) (end : ℕ) → Some end ≡ position (λ byte. nat_eq byte 10) text → typed_in text ≡ typed_on (take end text) ++ typed_in (take (length text - (end + 1)) (drop (end + 1) text))
unfolding typed_in
first_line text end found =
    let place = position_is text end found in
    let whole : take (length text - (end + 1)) (drop (end + 1) text) ≡ drop (end + 1) text = take_all (length text - (end + 1)) (drop (end + 1) text) (omega (arith, length-drop (end + 1) text)) in
    let below : position_or_len (λ byte. nat_eq byte 10) text < length text = omega (arith, place.0, place.1) in
    rw (whole, place.0) (ap (λ (lines : List (List ℕ)). flat_map typed_on lines) (pieces_at text below))

pub no_line : (text : List ℕ) → None ≡ position (λ byte. nat_eq byte 10) text → typed_in text ≡ []
unfolding typed_in
no_line text none = ap (λ (lines : List (List ℕ)). flat_map typed_on lines) (no_pieces text (position_past text none))
