-- Which words of memory an act leaves as they were, and what a sector written gives back.
use Rattle.std.proofs.Common.{◌≡◌, ◌≢◌, ℕ, zero, suc, ◌/◌, ◌%◌, ◌<◌, ◌≤◌, Bool, true, false, List, [], length, map, Option, Some, None, refl, ap, subst, ◌∙◌, arith, inl, inr}
use Rattle.std.specs.Prelude.{◌&&◌, ◌==◌, nat_lt, if◌then◌else◌, slice_index}
use Rattle.std.specs.List.{range_with_len}
use Rattle.std.proofs.lemmas.Bool.{cases_Bool, eqb-true}
use Rattle.std.proofs.lemmas.List.{get_or-set_other, length-set}
use Rattle.std.proofs.lemmas.List.FromFn.{get_or-map-range_with_len, length-map-range_with_len}
use Rattle.p11_overlay.specs.Drive.{Contents}
use Rattle.p11_rk11.specs.declared.function.Function.{Function}
use Rattle.p11_rk11.specs.declared.function.Function.TheVariants.{Read}
use Rattle.p11_rk11.specs.declared.registers.Registers.{Registers}
use Rattle.p11_rk11.specs.Acts.{sector_words, stores_of, is_refused, memory_after_sector, after_sector, after_sector_on, disk_after_transfer, disk_after_turn}
use Rattle.p11_rk11.specs.Drives.{MountedDrive}
use Rattle.p11_rk11.specs.Functions.{uses_memory, is_read}
use Rattle.p11_memory.specs.Memory.{Words, has_word, word_at, stored, all_stored, all_held}
use Rattle.p11_rk11.specs.Registers.{addresses, words_moved}
use Rattle.p11_words.specs.DueTurns.{is_due}
use Rattle.p11_rk11.specs.State.{Rk11State, selected}
use Rattle.p11_rk11.proofs.Words.{accepted, both_hold, held_at}

-- an address is not in a list
abbrev pub IsNoneOf : ℕ → List ℕ → Type 0
IsNoneOf address list = (k : ℕ) → k < length list → slice_index list k ≢ address

length-all_stored : (address : ℕ → ℕ) (list : List ℕ) (n : ℕ) (words : Words) → length (all_stored address list n words) ≡ length words
unfolding all_stored stored
length-all_stored address list zero words = refl
length-all_stored address list (suc n) words = length-set (all_stored address list n words) (address n / 2) _ ∙ length-all_stored address list n words

length-memory : (f : Function) (r : Registers) (contents : Contents) (memory : Words) → length (memory_after_sector f r contents memory) ≡ length memory
unfolding memory_after_sector
length-memory Read r contents memory = length-all_stored (addresses r) (sector_words r contents) (words_moved r) memory
length-memory _ r contents memory = refl

length-moved : (turn : ℕ) (r : Registers) (d : Option MountedDrive) (memory : Words) → length (after_sector_on turn r d memory).2 ≡ length memory
unfolding after_sector
length-moved turn r None memory = refl
length-moved turn r (Some drive) memory =
    elim (cases_Bool (is_refused r memory)) [
      | inl refused ↦ rw refused refl
      | inr moves ↦ rw moves (length-memory r.function r drive.contents memory)
    ]

pub length-memory_after_turn : (s : Rk11State) (memory : Words) (turn : ℕ) → length (disk_after_turn turn s memory).1 ≡ length memory
unfolding disk_after_turn disk_after_transfer
length-memory_after_turn s memory turn =
    elim (cases_Bool (is_due turn s.registers.transfer)) [
      | inr fails ↦ rw fails refl
      | inl holds ↦ rw holds (length-moved turn s.registers (selected s) memory)
    ]

pub memory_stays : (s : Rk11State) (memory : Words) (turn a : ℕ) → has_word (disk_after_turn turn s memory).1 a ≡ has_word memory a
unfolding has_word
memory_stays s memory turn a = ap (λ (n : ℕ). a % 2 == 0 && nat_lt (a / 2) n) (length-memory_after_turn s memory turn)

even : (words : Words) (a : ℕ) → has_word words a ≡ true → a % 2 ≡ 0
unfolding has_word
even words a h = eqb-true (a % 2) 0 (both_hold _ _ h).0

-- a word at none of the addresses
word_left : (address : ℕ → ℕ) (list : List ℕ) (n : ℕ) (words : Words) (a : ℕ) → a % 2 ≡ 0 → ((k : ℕ) → k < n → address k % 2 ≡ 0) → ((k : ℕ) → k < n → address k ≢ a)
    → word_at (all_stored address list n words) a ≡ word_at words a
unfolding all_stored stored word_at
word_left address list zero words a ea even other = refl
word_left address list (suc n) words a ea even other =
    let this : address n % 2 ≡ 0 = even n (omega arith) in
    get_or-set_other (all_stored address list n words) (address n / 2) (a / 2) (slice_index list n) 0
    (λ e. other n (omega arith) (omega (arith, e, ea, this)))
    ∙ word_left address list n words a ea (λ k lt. even k (omega (arith, lt))) (λ k lt. other k (omega (arith, lt)))

left_by_sector : (f : Function) (r : Registers) (contents : Contents) (memory : Words) (a : ℕ) → r.function ≡ f → is_refused r memory ≡ false → has_word memory a ≡ true
    → (is_read f ≡ true → (k : ℕ) → k < words_moved r → addresses r k ≢ a)
    → word_at (memory_after_sector f r contents memory) a ≡ word_at memory a
unfolding memory_after_sector is_read is_refused uses_memory
left_by_sector Read r contents memory a is moves here other =
    let held : all_held (addresses r) (words_moved r) memory ≡ true = accepted (uses_memory r.function) _ moves (ap uses_memory is) in
    word_left (addresses r) (sector_words r contents) (words_moved r) memory a (even memory a here)
    (λ k lt. even memory (addresses r k) (held_at (addresses r) memory (words_moved r) k held lt)) (other refl)
left_by_sector _ r contents memory a is moves here other = refl

left_by_drive : (turn : ℕ) (r : Registers) (d : Option MountedDrive) (memory : Words) (a : ℕ) → has_word memory a ≡ true
    → (is_read r.function ≡ true → (k : ℕ) → k < words_moved r → addresses r k ≢ a)
    → word_at (after_sector_on turn r d memory).2 a ≡ word_at memory a
unfolding after_sector
left_by_drive turn r None memory a here other = refl
left_by_drive turn r (Some drive) memory a here other =
    elim (cases_Bool (is_refused r memory)) [
      | inl refused ↦ rw refused refl
      | inr moves ↦ rw moves (left_by_sector r.function r drive.contents memory a refl moves here other)
    ]

none_stored : (turn : ℕ) (s : Rk11State) (a : ℕ) → is_due turn s.registers.transfer ≡ true → IsNoneOf a (stores_of turn s) → is_read s.registers.function ≡ true
    → (k : ℕ) → k < words_moved s.registers → addresses s.registers k ≢ a
unfolding stores_of
none_stored turn s a due none read k lt e =
    let f : ℕ → ℕ = addresses s.registers in
    let n : ℕ = words_moved s.registers in
    let list : List ℕ = map f (range_with_len 0 n) in
    let test : (is_due turn s.registers.transfer && is_read s.registers.function) ≡ true = rw (due, read) refl in
    let P : Bool → Type 0 = λ t. IsNoneOf a (if t then list else []) in
    subst P test none k (omega (arith, lt, length-map-range_with_len f 0 n)) (get_or-map-range_with_len f 0 n k k 0 lt (omega arith) ∙ e)

pub words_left_alone : (s : Rk11State) (memory : Words) (turn a : ℕ) → has_word memory a ≡ true → IsNoneOf a (stores_of turn s)
    → word_at (disk_after_turn turn s memory).1 a ≡ word_at memory a
unfolding disk_after_turn disk_after_transfer
words_left_alone s memory turn a here none =
    elim (cases_Bool (is_due turn s.registers.transfer)) [
      | inr fails ↦ rw fails refl
      | inl holds ↦ rw holds (left_by_drive turn s.registers (selected s) memory a here (none_stored turn s a holds none))
    ]

pub stores_bounded : (s : Rk11State) (turn : ℕ) → length (stores_of turn s) ≤ 256
unfolding stores_of words_moved
stores_bounded s turn =
    elim (cases_Bool (is_due turn s.registers.transfer && is_read s.registers.function)) [
      | inl holds ↦ rw holds (omega (arith, length-map-range_with_len (addresses s.registers) 0 (words_moved s.registers)))
      | inr fails ↦ rw fails (omega arith)
    ]

pub no_stores : (s : Rk11State) (turn : ℕ) → is_read s.registers.function ≡ false → stores_of turn s ≡ []
unfolding stores_of
no_stores s turn fails =
    elim (cases_Bool (is_due turn s.registers.transfer)) [ inl holds ↦ rw (holds, fails) refl | inr idle ↦ rw idle refl ]
