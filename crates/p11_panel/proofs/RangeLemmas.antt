-- Ranges of addresses whose words all answer.
use Rattle.std.proofs.Common.{◌≡◌, ℕ, zero, suc, ◌+◌, ◌*◌, ◌<◌, List, [], ◌∷◌, ◌++◌, Bool, true, false, ◌&&◌, length, take, get_or, rules, refl, ap, ◌∙◌, arith, add-one, inl, inr}
use Rattle.std.proofs.lemmas.Bool.{cases_lt}
use Rattle.std.proofs.lemmas.List.{take_more}
use Rattle.p11_cpu.specs.State.{State}
use Rattle.p11_cpu.specs.Operator.{answers_of, examine_of, deposit_of}
use Rattle.p11_cpu.specs.OperatorDevices.{key_of}
use Rattle.p11_panel.specs.Keys.{pressed}
use Rattle.p11_panel.specs.Ranges.{answers_at, all_answer, reads_at, deposited}

and_true-left : (a b : Bool) → (a && b) ≡ true → a ≡ true
and_true-left true b e = refl
and_true-left false b e = e

and_true-right : (a b : Bool) → (a && b) ≡ true → b ≡ true
and_true-right true b e = e
and_true-right false b e = cc

and_false-right : (a : Bool) → (a && false) ≡ false
and_false-right true = refl
and_false-right false = refl

-- each of the words answers
pub all_answer_at : (address n i : ℕ) (s : State) → i < n → all_answer address n s ≡ true → answers_at (address + 2 * i) s ≡ true
unfolding all_answer
all_answer_at address zero i s h e = absurd (omega arith)
all_answer_at address (suc n) i s h e =
    elim (cases_lt i n) [
      | inl below ↦ all_answer_at address n i s below (and_true-left _ _ e)
      | inr last ↦ let same : i ≡ n = omega arith in rw same (and_true-right _ _ e)
    ]

-- one that doesn't answer is enough
pub all_answer_stops : (address n i : ℕ) (s : State) → i < n → answers_at (address + 2 * i) s ≡ false → all_answer address n s ≡ false
unfolding all_answer
all_answer_stops address zero i s h e = absurd (omega arith)
all_answer_stops address (suc n) i s h e =
    elim (cases_lt i n) [
      | inl below ↦ ap (λ b. b && answers_at (address + 2 * n) s) (all_answer_stops address n i s below e)
      | inr last ↦ let same : n ≡ i = omega arith in rw (same, e) (and_false-right _)
    ]

-- the first of them answers
pub first_answers : (address n : ℕ) (s : State) → 0 < n → all_answer address n s ≡ true → answers_of address s ≡ true
unfolding answers_at
first_answers address n s h e =
    let same : address + 2 * 0 ≡ address = omega arith in
    let first : answers_at address s ≡ true = rw (← same) (all_answer_at address n 0 s h e) in
    and_true-right _ _ first

-- writing where something answers changes nothing of what answers
pub all_answer_kept : (address n : ℕ) (s s' : State) → ((a : ℕ) → answers_at a s' ≡ answers_at a s) → all_answer address n s' ≡ all_answer address n s
unfolding all_answer
all_answer_kept address zero s s' same = refl
all_answer_kept address (suc n) s s' same = rw (all_answer_kept address n s s' same, same (address + 2 * n)) refl

-- one more word is written
deposited_push : (address : ℕ) (words : List ℕ) (word : ℕ) (s : State) → deposited address (words ++ word ∷ []) s ≡ deposit_of (address + 2 * length words) word (deposited address words s)
unfolding deposited
deposited_push address [] word s = let same : address + 2 * 0 ≡ address = omega arith in rw same refl
deposited_push address (w ∷ words) word s =
    let same : address + 2 + 2 * length words ≡ address + 2 * suc (length words) = omega arith in
    deposited_push (address + 2) words word (deposit_of address w s) ∙ ap (λ a. deposit_of a word (deposited (address + 2) words (deposit_of address w s))) same

pub deposited_more : (address : ℕ) (words : List ℕ) (i d : ℕ) (s s' : State) → i < length words → s' ≡ deposited address (take i words) s → deposit_of (address + 2 * i) (get_or words i d) s' ≡ deposited address (take (i + 1) words) s
deposited_more address words i d s s' h e =
    let size : length (take i words) ≡ i = search rules in
    rw (take_more words i d h, deposited_push address (take i words) (get_or words i d) s, size, e) refl

-- one more word is read
pub reads_more : (address n word : ℕ) (words : List ℕ) (s s' s'' : State) → reads_at address n s ≡ (s', words) → examine_of (address + 2 * n) s' ≡ (s'', word) → reads_at address (n + 1) s ≡ (s'', words ++ word ∷ [])
unfolding reads_at
reads_more address n word words s s' s'' e f = rw (add-one n, e, f) refl

-- one word alone is read
pub reads_one : (address : ℕ) (s : State) → reads_at address 1 s ≡ ((examine_of address s).0, (examine_of address s).1 ∷ [])
unfolding reads_at
reads_one address s =
    let same : address + 2 * 0 ≡ address = omega arith in
    rw same refl

-- one more key is pressed
pressed_push : (keys : List ℕ) (key : ℕ) (s : State) → pressed (keys ++ key ∷ []) s ≡ (key_of key (pressed keys s)).0
unfolding pressed
pressed_push [] key s = refl
pressed_push (k ∷ keys) key s = pressed_push keys key (key_of k s).0

pub pressed_more : (keys : List ℕ) (i d : ℕ) (s s' s'' : State) → i < length keys → s' ≡ pressed (take i keys) s → s'' ≡ (key_of (get_or keys i d) s').0 → s'' ≡ pressed (take (i + 1) keys) s
pressed_more keys i d s s' s'' h e f = rw (take_more keys i d h, pressed_push (take i keys) (get_or keys i d) s) (f ∙ ap (λ (x : State). (key_of (get_or keys i d) x).0) e)
