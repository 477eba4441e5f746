-- Words at addresses of which each follows the one before, with none past 777776.
use Rattle.std.proofs.Common.{◌≡◌, ℕ, zero, suc, ◌+◌, ◌-◌, ◌*◌, ◌/◌, ◌%◌, ◌<◌, ◌≤◌, Bool, true, false, List, [], ◌∷◌, ◌++◌, length, map, take, drop, set, get_or, replicate, refl, sym, ap, ◌∙◌, arith, add-one, inl, inr}
use Rattle.std.specs.List.{range_with_len}
use Rattle.std.specs.Prelude.{slice_index}
use Rattle.std.proofs.lemmas.Bool.{cases_Bool}
use Rattle.std.proofs.lemmas.Bool.Decides.{nat_tests}
use Rattle.std.proofs.lemmas.List.{append_assoc, drop-drop, drop_more, drop-replicate, length-append, length-drop, length-replicate, length-take-le, places, same_lists, set_at, take-append-drop, take_more}
use Rattle.std.proofs.lemmas.List.FromFn.{get_or-map-range_with_len, length-map-range_with_len}
use borrow.Rule.Slice.PartMut.{put_mid}
use Rattle.p11_rk11.specs.Address.{word_address}
use Rattle.p11_memory.specs.Memory.{Words, has_word, word_at, stored, all_held, all_stored}
use Rattle.p11_rk11.specs.Sector.{sector_from, words_from}
use Rattle.p11_rk11.proofs.Words.{held_at, not_held}

-- the address of a word and its number in memory
address_in : (start n k : ℕ) → start + 2 * n ≤ 0o1000000 → k < n → word_address start false k ≡ start + 2 * k
unfolding word_address
address_in start n k ends lt = omega arith

place_in : (start k a : ℕ) → start % 2 ≡ 0 → a ≡ start + 2 * k → a / 2 ≡ start / 2 + k
place_in start k a even at = omega arith

word_there : (words : Words) (start k a : ℕ) → start % 2 ≡ 0 → a ≡ start + 2 * k → start / 2 + k < length words → has_word words a ≡ true
unfolding has_word
word_there words start k a even at within =
    let place : a / 2 ≡ start / 2 + k = place_in start k a even at in
    let low : a % 2 ≡ 0 = omega arith in
    let below : a / 2 < length words = omega arith in
    grind (arith, nat_tests)

there_within : (words : Words) (a : ℕ) → has_word words a ≡ true → a / 2 < length words
unfolding has_word
there_within words a there = grind (arith, nat_tests)

run_held : (start n : ℕ) (words : Words) → start % 2 ≡ 0 → start + 2 * n ≤ 0o1000000 → start / 2 + n ≤ length words → all_held (word_address start false) n words ≡ true
unfolding all_held
run_held start zero words even ends within = refl
run_held start (suc n) words even ends within =
    let more : start + 2 * n ≤ 0o1000000 = omega arith in
    let less : start / 2 + n ≤ length words = omega arith in
    let at : word_address start false n ≡ start + 2 * n = address_in start (suc n) n ends (omega arith) in
    rw (run_held start n words even more less, word_there words start n (word_address start false n) even at (omega arith)) refl

-- the last address is memory where all are
pub last_held : (start n a : ℕ) (stays : Bool) (words : Words) → stays ≡ false → start % 2 ≡ 0 → 0 < n → start + 2 * n ≤ 0o1000000 → a ≡ word_address start stays (n - 1) → has_word words a ≡ all_held (word_address start stays) n words
last_held start n a stays words goes even some ends last =
    rw goes
    (let is_last : a ≡ word_address start false (n - 1) = rw goes at last in
    let at : a ≡ start + 2 * (n - 1) = is_last ∙ address_in start n (n - 1) ends (omega arith) in
    elim (cases_Bool (has_word words a)) [
      | inl there ↦ (let below = there_within words a there in
          let place : a / 2 ≡ start / 2 + (n - 1) = place_in start (n - 1) a even at in
          there ∙ sym (run_held start n words even ends (omega arith)))
      | inr none ↦ none ∙ not_held (word_address start false) words n (n - 1) a is_last (omega arith) none
    ])

-- where all are memory, they lie within
pub run_within : (start n : ℕ) (stays : Bool) (words : Words) → stays ≡ false → start % 2 ≡ 0 → 0 < n → start + 2 * n ≤ 0o1000000 → all_held (word_address start stays) n words ≡ true → start / 2 + n ≤ length words
run_within start n stays words goes even some ends held =
    let each : all_held (word_address start false) n words ≡ true = rw goes at held in
    let last : n - 1 < n = omega arith in
    let at : word_address start false (n - 1) ≡ start + 2 * (n - 1) = address_in start n (n - 1) ends last in
    let below = there_within words (word_address start false (n - 1)) (held_at (word_address start false) words n (n - 1) each last) in
    let place : word_address start false (n - 1) / 2 ≡ start / 2 + (n - 1) = place_in start (n - 1) (word_address start false (n - 1)) even at in
    omega arith

run_words : (start n : ℕ) (words : Words) → start % 2 ≡ 0 → start + 2 * n ≤ 0o1000000 → start / 2 + n ≤ length words → take n (drop (start / 2) words) ≡ words_from (word_address start false) n words
unfolding words_from word_at
run_words start n words even ends within =
    let f : ℕ → ℕ = λ k. slice_index words (word_address start false k / 2) in
    let long : length (take n (drop (start / 2) words)) ≡ n = length-take-le n (drop (start / 2) words) (omega (arith, length-drop (start / 2) words)) in
    same_lists (take n (drop (start / 2) words)) (map f (range_with_len 0 n)) (long ∙ sym (length-map-range_with_len f 0 n))
    (λ k d h.
    let below : k < n = omega (arith, long) in
    let at : word_address start false k ≡ start + 2 * k = address_in start n k ends below in
    let place : word_address start false k / 2 ≡ start / 2 + k = place_in start k (word_address start false k) even at in
    let inside : start / 2 + k < length words = omega arith in
    let read : slice_index words (start / 2 + k) ≡ get_or words (start / 2 + k) d = grind (arith, places) in
    let left : get_or (take n (drop (start / 2) words)) k d ≡ get_or words (start / 2 + k) d = grind (arith, places) in
    left ∙ sym read ∙ ap (slice_index words) (sym place) ∙ sym (get_or-map-range_with_len f 0 n k k d below (omega arith)))

-- as many words as room for them
pub run_length : (start n : ℕ) (words zeros run : List ℕ) → zeros ≡ replicate 256 0 → n ≤ 256 → start / 2 + n ≤ length words → run ≡ take n (drop (start / 2) words) → length (take n zeros) ≡ length run
run_length start n words zeros run empty few within is =
    let room : length zeros ≡ 256 = ap length empty ∙ length-replicate {A = ℕ} 256 0 in
    length-take-le n zeros (omega (arith, room))
    ∙ sym (ap length is ∙ length-take-le n (drop (start / 2) words) (omega (arith, length-drop (start / 2) words)))

-- words that were copied to the front of zeros
pub run_loaded : (start n : ℕ) (stays : Bool) (words copied zeros : List ℕ) → stays ≡ false → start % 2 ≡ 0 → start + 2 * n ≤ 0o1000000 → start / 2 + n ≤ length words → copied ≡ take n (drop (start / 2) words) → zeros ≡ replicate 256 0 → copied ++ drop n zeros ≡ sector_from (word_address start stays) n words
unfolding sector_from
run_loaded start n stays words copied zeros goes even ends within run empty =
    rw (goes, run, empty, drop-replicate {X = ℕ} n 256 0, run_words start n words even ends within) refl

put_more : (a n w : ℕ) (words list : List ℕ) → a + n < length words → n < length list → w ≡ slice_index list n → set (put_mid a n words (take n list)) (a + n) w ≡ put_mid a (suc n) words (take (suc n) list)
put_more a n w words list within more is =
    let y : ℕ = get_or words (a + n) 0 in
    let rest : List ℕ = drop (a + n + 1) words in
    let front : List ℕ = take a words ++ take n list in
    let long : length front ≡ a + n =
    length-append (take a words) (take n list) ∙ omega (arith, length-take-le a words (omega arith), length-take-le n list (omega arith)) in
    let tail : drop n (drop a words) ≡ y ∷ rest = drop-drop n a words ∙ drop_more words (a + n) 0 within in
    let here : slice_index list n ≡ get_or list n 0 = grind (arith, places) in
    let taken : take (suc n) list ≡ take n list ++ w ∷ [] =
    ap (λ (k : ℕ). take k list) (sym (add-one n)) ∙ take_more list n 0 more ∙ ap (λ (v : ℕ). take n list ++ v ∷ []) (sym here ∙ sym is) in
    let next : a + suc n ≡ a + n + 1 = omega arith in
    let left : drop (suc n) (drop a words) ≡ rest = drop-drop (suc n) a words ∙ ap (λ (k : ℕ). drop k words) next in
    ap (λ (l : List ℕ). set (take a words ++ (take n list ++ l)) (a + n) w) tail
    ∙ ap (λ (l : List ℕ). set l (a + n) w) (sym (append_assoc (take a words) (take n list) (y ∷ rest)))
    ∙ set_at front y rest w (a + n) long
    ∙ append_assoc (take a words) (take n list) (w ∷ rest)
    ∙ ap (λ (l : List ℕ). take a words ++ l) (sym (append_assoc (take n list) (w ∷ []) rest))
    ∙ ap (λ (l : List ℕ). take a words ++ (l ++ rest)) (sym taken)
    ∙ ap (λ (l : List ℕ). take a words ++ (take (suc n) list ++ l)) (sym left)

put_all : (start n : ℕ) (words list : List ℕ) → start % 2 ≡ 0 → start + 2 * n ≤ 0o1000000 → start / 2 + n ≤ length words → n ≤ length list → put_mid (start / 2) n words (take n list) ≡ all_stored (word_address start false) list n words
unfolding all_stored stored
put_all start zero words list even ends within enough = take-append-drop (start / 2) words
put_all start (suc n) words list even ends within enough =
    let before : put_mid (start / 2) n words (take n list) ≡ all_stored (word_address start false) list n words =
    put_all start n words list even (omega arith) (omega arith) (omega arith) in
    let at : word_address start false n ≡ start + 2 * n = address_in start (suc n) n ends (omega arith) in
    let place : word_address start false n / 2 ≡ start / 2 + n = place_in start n (word_address start false n) even at in
    sym (put_more (start / 2) n (slice_index list n) words list (omega arith) (omega arith) refl)
    ∙ ap (λ (i : ℕ). set (put_mid (start / 2) n words (take n list)) i (slice_index list n)) (sym place)
    ∙ ap (λ (l : List ℕ). set l (word_address start false n / 2) (slice_index list n)) before

-- words that were stored at once
pub run_stored : (start n k : ℕ) (stays : Bool) (words list after : List ℕ) → stays ≡ false → start % 2 ≡ 0 → start + 2 * n ≤ 0o1000000 → start / 2 + n ≤ length words → n ≤ length list → k ≡ n → after ≡ put_mid (start / 2) k words (take n list) → after ≡ all_stored (word_address start stays) list n words
run_stored start n k stays words list after goes even ends within enough same now =
    rw goes (now ∙ ap (λ (k : ℕ). put_mid (start / 2) k words (take n list)) same ∙ put_all start n words list even ends within enough)
