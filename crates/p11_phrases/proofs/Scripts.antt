-- Scripts of lines that are written.
use Rattle.std.proofs.Common.{◌≡◌, ℕ, ◌+◌, ◌<◌, ◌≤◌, suc, List, [], ◌∷◌, ◌++◌, length, take, drop, get_or, refl, sym, ap, ◌∙◌, append_assoc, add-one, arith}
use Rattle.std.proofs.Math.Seq.{drop-cons}
use Rattle.std.proofs.lemmas.List.{append-nil, drop_all}
use Rattle.p11_lines.specs.Calls.LineText.{line_text}
use Rattle.p11_lines.specs.declared.line.Line.{Line}
use Rattle.p11_lines.specs.declared.line.Line.TheVariants.{Set, Regs, Examine, Deposit}
use Rattle.p11_phrases.specs.Phrases.{script, set_text, sets}

-- a line's text tells nothing of the allocator
pub same_set : (A : Type 0) (number word : ℕ) → line_text {A = A} (Set number word) ++ 10 ∷ [] ≡ set_text number word
unfolding line_text
same_set A number word = refl

pub regs_alone : (A : Type 0) → line_text {A = A} Regs ++ 10 ∷ [] ≡ script (Regs ∷ [])
unfolding line_text
regs_alone A = sym (append-nil (line_text {A = A} Regs ++ 10 ∷ []))

pub examine_alone : (A : Type 0) (address count : ℕ) → line_text {A = A} (Examine address count) ++ 10 ∷ [] ≡ script (Examine address count ∷ [])
unfolding line_text
examine_alone A address count = sym (append-nil (line_text {A = A} (Examine address count) ++ 10 ∷ []))

pub deposit_alone : (A : Type 0) (address : ℕ) (words : List ℕ) → line_text {A = A} (Deposit address words) ++ 10 ∷ [] ≡ script (Deposit address words ∷ [])
unfolding line_text
deposit_alone A address words = sym (append-nil (line_text {A = A} (Deposit address words) ++ 10 ∷ []))

-- one word more is set
pub set_more : (first : ℕ) (text : List ℕ) (words : List ℕ) (i : ℕ) → i < length words
    → (text ++ set_text (first + i) (get_or words i 0)) ++ script (sets (first + (i + 1)) (drop (i + 1) words))
    ≡ text ++ script (sets (first + i) (drop i words))
set_more first text words i within =
    let next : first + (i + 1) ≡ first + i + 1 = omega arith in
    rw (next, drop-cons words i 0 within, add-one i) (append_assoc text _ _)

pub set_all : (first : ℕ) (text : List ℕ) (words : List ℕ) (i : ℕ) → length words ≤ i → text ++ script (sets first (drop i words)) ≡ text
set_all first text words i past = rw (drop_all i words past) (append-nil text)
