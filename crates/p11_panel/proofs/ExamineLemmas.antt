-- What EXAMINE comes to once its refusals are tried: a word, or a list of words.
use Rattle.std.proofs.Common.{◌≡◌, ℕ, ◌<◌, false, ◌==◌, List, [], ◌∷◌, None, refl, ap, ◌∙◌, arith, inl}
use Rattle.std.specs.Prelude.{if◌then◌else◌, slice_index}
use Rattle.p11_lines.specs.declared.answer.Answer.{Answer}
use Rattle.p11_lines.specs.declared.answer.Answer.TheVariants.{Word, Words}
use Rattle.p11_cpu.specs.State.{State}
use Rattle.p11_cpu.specs.Operator.{examine_of}
use Rattle.p11_panel.specs.declared.command.Command.TheVariants.{Examine}
use Rattle.p11_panel.specs.Commands.{CommandStep}
use Rattle.p11_panel.specs.Ranges.{examine_fault, examined, reads_at}
use Rattle.p11_panel.specs.Refusals.{unless}
use Rattle.p11_panel.proofs.RangeLemmas.{reads_one}

-- the machine and the words as EXAMINE answers them
shown : {A : Type 0} → ℕ → ℕ → State × List ℕ → State × Answer A
shown address n read = (read.0, if n == 1 then Word address (slice_index read.1 0) else Words address read.1)

shows : {A : Type 0} (address n : ℕ) (s : State) (read : State × List ℕ) → reads_at address n s ≡ read → examined {A = A} address n s ≡ shown address n read
unfolding examined shown
shows {A} address n s read e = ap (λ r. shown {A = A} address n r) e

done : {A : Type 0} (address n : ℕ) (s s' : State) (answer : Answer A) → examine_fault address n s ≡ None → examined address n s ≡ (s', answer) → CommandStep s (Examine address n) answer s'
done {A} address n s s' answer free e = inl (ap (λ fault. unless fault s (examined {A = A} address n s)) free ∙ e)

-- one word
pub examines_one : {A : Type 0} (address n word : ℕ) (s s' : State) → n ≡ 1 → examine_fault address n s ≡ None → examine_of address s ≡ (s', word) → CommandStep {A = A} s (Examine address n) (Word address word) s'
unfolding shown
examines_one {A} address n word s s' one free e =
    let read : reads_at address n s ≡ (s', word ∷ []) = ap (λ k. reads_at address k s) one ∙ reads_one address s ∙ ap (λ r. (r.0, r.1 ∷ [])) e in
    let answer : shown {A = A} address n (s', word ∷ []) ≡ (s', Word address word) = ap (λ k. shown {A = A} address k (s', word ∷ [])) one in
    done address n s s' (Word address word) free (shows address n s (s', word ∷ []) read ∙ answer)

-- several words
pub examines_more : {A : Type 0} (address n : ℕ) (words : List ℕ) (s s' : State) → 1 < n → examine_fault address n s ≡ None → reads_at address n s ≡ (s', words) → CommandStep {A = A} s (Examine address n) (Words address words) s'
unfolding shown
examines_more {A} address n words s s' more free e =
    let several : (n == 1) ≡ false = grind (arith, more) in
    let answer : shown {A = A} address n (s', words) ≡ (s', Words address words) = rw several refl in
    done address n s s' (Words address words) free (shows address n s (s', words) e ∙ answer)
