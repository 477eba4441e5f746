-- Words of a sector and of memory, a step at a time.
use Rattle.std.proofs.Common.{◌≡◌, ℕ, zero, suc, ◌+◌, ◌-◌, ◌*◌, ◌/◌, ◌<◌, Bool, true, false, List, [], ◌∷◌, ◌++◌, length, map, take, drop, set, replicate, refl, sym, ap, ◌∙◌, arith, add-one, inl, inr}
use Rattle.std.specs.Prelude.{◌&&◌, not, slice_index}
use Rattle.std.specs.List.{range_with_len}
use Rattle.std.proofs.lemmas.Bool.{cases_lt}
use Rattle.std.proofs.lemmas.List.{append_assoc, ext_get_or, length-set, take_at}
use Rattle.std.proofs.Math.Seq.{set-append_seam}
use Rattle.std.proofs.lemmas.List.FromFn.{get_or-map-range_with_len, length-map-range_with_len, map-range_with_len_more}
use Rattle.byteorder.specs.Endian.{little_number, IsRead}
use Rattle.p11_memory.specs.Memory.{Words, has_word, word_at, stored, all_stored, all_held}
use Rattle.p11_rk11.specs.Sector.{words_of_sector, words_from, sector_from}

-- 256 words that were read are the sector's words
pub words_read : (bytes words : List ℕ) → length words ≡ 256 → IsRead little_number 2 bytes words → words ≡ words_of_sector bytes
unfolding words_of_sector
words_read bytes words len read =
    let f : ℕ → ℕ = λ k. little_number 2 (drop (2 * k) bytes) in
    ext_get_or 0 words (map f (range_with_len 0 256)) (len ∙ sym (length-map-range_with_len f 0 256))
    (λ i lt. read i lt ∙ sym (get_or-map-range_with_len f 0 256 i i 0 (omega (arith, len)) (omega arith)))

-- one address more is memory
pub held_more : (address : ℕ → ℕ) (words : Words) (n a : ℕ) → a ≡ address n → all_held address n words ≡ true → has_word words a ≡ true → all_held address (n + 1) words ≡ true
unfolding all_held
held_more address words n a at before this =
    rw (add-one n) (ap (λ b. b && has_word words (address n)) before ∙ ap (λ x. has_word words x) (sym at) ∙ this)

pub both_hold : (a b : Bool) → a && b ≡ true → (a ≡ true) × (b ≡ true)
both_hold true b h = (refl, h)
both_hold false b h = cc h

-- each of the addresses is memory
pub held_at : (address : ℕ → ℕ) (words : Words) (n k : ℕ) → all_held address n words ≡ true → k < n → has_word words (address k) ≡ true
unfolding all_held
held_at address words zero k held lt = absurd (omega arith)
held_at address words (suc n) k held lt =
    let parts = both_hold (all_held address n words) (has_word words (address n)) held in
    elim (cases_lt k n) [
      | inl below ↦ held_at address words n k parts.0 below
      | inr at ↦ let e : k ≡ n = omega arith in rw e parts.1
    ]

-- where one isn't, not all are
pub not_held : (address : ℕ → ℕ) (words : Words) (n k a : ℕ) → a ≡ address k → k < n → has_word words a ≡ false → false ≡ all_held address n words
not_held address words n k a at lt none =
    elim (all_held address n words) as (λ t. all_held address n words ≡ t → false ≡ t) [
      | true ↦ λ e. sym none ∙ ap (λ x. has_word words x) at ∙ held_at address words n k e lt
      | false ↦ λ e. refl
    ] refl

-- memory that was there is there after a store
pub stored_held : (words : Words) (a w b : ℕ) → has_word words b ≡ true → has_word (stored words a w) b ≡ true
unfolding stored has_word
stored_held words a w b h = rw (length-set words (a / 2) w) h

pub all_stored_held : (address : ℕ → ℕ) (list : List ℕ) (n : ℕ) (words : Words) (b : ℕ) → has_word words b ≡ true → has_word (all_stored address list n words) b ≡ true
unfolding all_stored
all_stored_held address list zero words b h = h
all_stored_held address list (suc n) words b h =
    stored_held (all_stored address list n words) (address n) (slice_index list n) b (all_stored_held address list n words b h)

-- one word more is stored
pub stored_more : (address : ℕ → ℕ) (list : List ℕ) (n a w : ℕ) (words before after : Words) → a ≡ address n → w ≡ slice_index list n
    → before ≡ all_stored address list n words → after ≡ stored before a w → after ≡ all_stored address list (n + 1) words
unfolding all_stored
stored_more address list n a w words before after at is was now = rw (add-one n) (now ∙ rw (at, is, was) refl)

-- no words, and zeros
pub loaded_none : (address : ℕ → ℕ) (words : Words) → replicate 256 0 ≡ sector_from address 0 words
unfolding sector_from words_from
loaded_none address words = refl

-- one word more is loaded
pub loaded_more : (address : ℕ → ℕ) (words : Words) (n a w : ℕ) (list : List ℕ) → n < 256 → a ≡ address n → w ≡ word_at words a
    → list ≡ sector_from address n words → set list n w ≡ sector_from address (n + 1) words
unfolding sector_from words_from
loaded_more address words n a w list lt at is was =
    let f : ℕ → ℕ = λ k. word_at words (address k) in
    let xs : List ℕ = map f (range_with_len 0 n) in
    let m : ℕ = 256 - (n + 1) in
    let len : n ≡ length xs = sym (length-map-range_with_len f 0 n) in
    let word : w ≡ f n = is ∙ ap (λ (b : ℕ). word_at words b) at in
    let split : 256 - n ≡ suc m = omega arith in
    let more : map f (range_with_len 0 (n + 1)) ≡ xs ++ f n ∷ [] = map-range_with_len_more f 0 n n (omega arith) in
    ap (λ (l : List ℕ). set l n w) (was ∙ ap (λ (k : ℕ). xs ++ replicate k 0) split)
    ∙ ap (λ (k : ℕ). set (xs ++ 0 ∷ replicate m 0) k w) len
    ∙ set-append_seam xs 0 (replicate m 0) w
    ∙ sym (append_assoc xs (w ∷ []) (replicate m 0))
    ∙ ap (λ (v : ℕ). (xs ++ v ∷ []) ++ replicate m 0) word
    ∙ ap (λ (l : List ℕ). l ++ replicate m 0) (sym more)

-- the words that were loaded, without the zeros
pub loaded_words : (address : ℕ → ℕ) (words : Words) (n : ℕ) → take n (sector_from address n words) ≡ words_from address n words
unfolding sector_from words_from
loaded_words address words n =
    let f : ℕ → ℕ = λ k. word_at words (address k) in
    take_at (map f (range_with_len 0 n)) (replicate (256 - n) 0) n (length-map-range_with_len f 0 n)

-- where a sector isn't refused, each of its addresses is memory
pub accepted : (uses held : Bool) → uses && not held ≡ false → uses ≡ true → held ≡ true
accepted true true refused uses = refl
accepted true false refused uses = cc refused
accepted false held refused uses = cc uses
