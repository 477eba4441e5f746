-- Lines that fit the grammar are short enough for a script, where they aren't refused.
use Rattle.std.proofs.Common.{◌≡◌, ℕ, suc, ◌+◌, ◌*◌, ◌/◌, ◌%◌, ◌≤◌, ◌==◌, Bool, true, false, ◌&&◌, ◌||◌, nat_lt, nat_le, if◌then◌else◌, List, [], ◌∷◌, length, map, Option, Some, None, All, refl, sym, ap, arith, inl, inr}
use Rattle.std.specs.Fmt.{decimal}
use Rattle.std.specs.List.{list_all}
use Rattle.std.proofs.lemmas.Bool.{and_parts, leb-true}
use Rattle.std.proofs.lemmas.Bool.Decides.{nat_tests}
use Rattle.std.proofs.lemmas.List.{length-append}
use Rattle.p11_lines.specs.declared.answer.Answer.{Answer}
use Rattle.p11_lines.specs.declared.answer.Answer.TheVariants as answers
use Rattle.p11_lines.specs.declared.fault.Fault.{Fault}
use Rattle.p11_lines.specs.declared.fault.Fault.TheVariants.{KeysFull, TooMany}
use Rattle.p11_lines.specs.declared.line.Line.{Line}
use Rattle.p11_lines.specs.declared.line.Line.TheVariants as lines
use Rattle.p11_lines.specs.Calls.LineText.{FitsGrammar, line_text, line_words, octal, with_spaces}
use Rattle.p11_lines.specs.Escapes.{escaped, escaped_byte, is_plain}
use Rattle.p11_lines.specs.Grammar.{access_text, is_graphic, is_name}
use Rattle.p11_lines.proofs.Numbers.{decimal-Writes, octal-Writes}
use Rattle.p11_cpu.specs.OperatorDevices.{room_of}
use Rattle.p11_cpu.specs.State.{State}
use Rattle.p11_panel.specs.declared.command.Command.TheVariants as commands
use Rattle.p11_panel.specs.Commands.{CommandStep, outcome}
use Rattle.p11_panel.specs.Ranges.{deposit_fault, range_fault, touches_io_page}
use Rattle.p11_panel.specs.Refusals.{unless}
use Rattle.p11_records.proofs.OutcomeLemmas.{Answers, plain, plain_turns}
use Rattle.p11_records.specs.Again.{IsOfScript}

total : List (List ℕ) → ℕ
total [] = 0
total (word ∷ words) = length word + 1 + total words

spaced : (words : List (List ℕ)) → length (with_spaces words) ≤ total words
unfolding total
spaced [] = omega arith
spaced (word ∷ []) = omega arith
spaced (word ∷ next ∷ rest) = let more = spaced (next ∷ rest) in let e = length-append word (32 ∷ with_spaces (next ∷ rest)) in omega (arith, more, e)

-- what is long only where it is refused
abbrev pub IsSmall : {A : Type 0} → Line A → Type 0
IsSmall (lines.Deposit address words) = length words ≤ 64
IsSmall (lines.Key text) = length text ≤ 64
IsSmall line = Unit {0}

octals : (words : List ℕ) → All (λ word. word ≤ 0o177777) words → total (map octal words) ≤ 7 * length words
unfolding total
octals [] fit = omega arith
octals (word ∷ words) fit =
    let first = (octal-Writes word (omega (arith, fit 0 0 (omega arith)))).short in
    let rest = octals words (λ k d below. fit (suc k) d (omega (arith, below))) in
    omega (arith, first, rest)

shown_byte : (plain : Bool) (byte a b c : ℕ) → length (if plain then byte ∷ [] else 0o134 ∷ a ∷ b ∷ c ∷ []) ≤ 4
shown_byte true byte a b c = omega arith
shown_byte false byte a b c = omega arith

escapes : (text : List ℕ) → length (escaped text) ≤ 4 * length text
unfolding escaped_byte
escapes [] = omega arith
escapes (byte ∷ text) =
    let first = shown_byte (is_plain byte) byte (48 + byte / 64) (48 + byte / 8 % 8) (48 + byte % 8) in
    let rest = escapes text in
    let e = length-append (escaped_byte byte) (escaped text) in
    omega (arith, first, rest, e)

name_short : (name : List ℕ) → is_name name ≡ true → length name ≤ 255
unfolding is_name
name_short name test =
    let tests = and_parts (nat_lt 0 (length name) && nat_le (length name) 255) (list_all is_graphic name) test in
    leb-true _ _ (and_parts (nat_lt 0 (length name)) (nat_le (length name) 255) tests.0).1

access_short : (protect : Bool) → length (access_text protect) ≤ 2
access_short true = omega arith
access_short false = omega arith

word_short : (word : ℕ) → word ≤ 0o177777 → length (octal word) ≤ 6
word_short word fits = (octal-Writes word (omega (arith, fits))).short

count_short : (count : ℕ) → count ≤ 999999999 → length (decimal count) ≤ 9
count_short count fits = (decimal-Writes count fits).short

pub is_short : {A : Type 0} (line : Line A) → FitsGrammar line → IsSmall line → length (line_text line) ≤ 4096
unfolding line_text FitsGrammar total
is_short {A} (lines.Mount drive name protect) fits small =
    let t = spaced (line_words {A = A} (lines.Mount drive name protect)) in let d = word_short drive fits.0 in let n = name_short name fits.1 in let a = access_short protect in omega (arith, t, d, n, a)
is_short {A} (lines.Unmount drive) fits small = let t = spaced (line_words {A = A} (lines.Unmount drive)) in let d = word_short drive fits in omega (arith, t, d)
is_short {A} (lines.Save drive name) fits small =
    let t = spaced (line_words {A = A} (lines.Save drive name)) in let d = word_short drive fits.0 in let n = name_short name fits.1 in omega (arith, t, d, n)
is_short {A} (lines.Changed drive) fits small = let t = spaced (line_words {A = A} (lines.Changed drive)) in let d = word_short drive fits in omega (arith, t, d)
is_short {A} (lines.Load name) fits small = let t = spaced (line_words {A = A} (lines.Load name)) in let n = name_short name fits in omega (arith, t, n)
is_short {A} (lines.Examine address count) fits small =
    let t = spaced (line_words {A = A} (lines.Examine address count)) in let a = (octal-Writes address fits.0).short in let c = count_short count fits.1.1 in omega (arith, t, a, c)
is_short {A} (lines.Deposit address words) fits small =
    let t = spaced (line_words {A = A} (lines.Deposit address words)) in let a = (octal-Writes address fits.0).short in let w = octals words fits.2 in omega (arith, t, a, w, small)
is_short {A} (lines.Start address) fits small = let t = spaced (line_words {A = A} (lines.Start address)) in let a = word_short address fits in omega (arith, t, a)
is_short {A} (lines.Key text) fits small = let t = spaced (line_words {A = A} (lines.Key text)) in let w = escapes text in omega (arith, t, w, small)
is_short {A} lines.Tick fits small = let t = spaced (line_words {A = A} lines.Tick) in omega (arith, t)
is_short {A} (lines.Clock period) fits small = let t = spaced (line_words {A = A} (lines.Clock period)) in let c = count_short period fits in omega (arith, t, c)
is_short {A} (lines.Switches word) fits small = let t = spaced (line_words {A = A} (lines.Switches word)) in let w = word_short word fits in omega (arith, t, w)
is_short {A} (lines.Set register value) fits small =
    let t = spaced (line_words {A = A} (lines.Set register value)) in let r = word_short register fits.0 in let v = word_short value fits.1 in omega (arith, t, r, v)
is_short {A} (lines.Step turns) fits small = let t = spaced (line_words {A = A} (lines.Step turns)) in let c = count_short turns fits.1 in omega (arith, t, c)
is_short {A} (lines.Continue turns) fits small = let t = spaced (line_words {A = A} (lines.Continue turns)) in let c = count_short turns fits.1 in omega (arith, t, c)
is_short {A} lines.Regs fits small = let t = spaced (line_words {A = A} lines.Regs) in omega (arith, t)
is_short {A} lines.Device fits small = let t = spaced (line_words {A = A} lines.Device) in omega (arith, t)
is_short {A} lines.Flush fits small = let t = spaced (line_words {A = A} lines.Flush) in omega (arith, t)

pub of_script : {A : Type 0} (line : Line A) → FitsGrammar line → IsSmall line → IsOfScript line
of_script line fits small = (fits, is_short line fits small)

-- DEPOSIT and KEY are refused where they are longer
under_limit : (none most touches : Bool) (fault : Fault) (others : Option Fault) → (if none || most || touches then Some fault else others) ≡ None → most ≡ false
under_limit true most touches fault others e = cc
under_limit false true touches fault others e = cc
under_limit false false touches fault others e = refl

few_words : (address n : ℕ) (s : State) → deposit_fault address n s ≡ None → n ≤ 64
unfolding deposit_fault
few_words address n s e =
    let most : nat_lt 64 n ≡ false = under_limit (n == 0) (nat_lt 64 n) (touches_io_page address n) TooMany (range_fault address n s) e in
    grind (arith, nat_tests, most)

deposit_done : {A : Type 0} (address n : ℕ) (s : State) (fault : Option Fault) (done : State × Answer A) (answer : Answer A) (s' : State) → deposit_fault address n s ≡ fault → Answers answer → unless fault s done ≡ (s', answer) → n ≤ 64
deposit_done address n s None done answer s' e answers_it same = few_words address n s e
deposit_done {A} address n s (Some fault) done answer s' e answers_it same = absurd (answers_it fault (sym (ap (λ (r : State × Answer A). r.1) same)))

pub few_deposited : {A : Type 0} (address : ℕ) (words : List ℕ) (answer : Answer A) (s s' : State) → Answers answer → CommandStep s (commands.Deposit address words) answer s' → length words ≤ 64
few_deposited {A} address words answer s s' answers_it (inl same) = deposit_done {A = A} address (length words) s (deposit_fault address (length words) s) _ answer s' refl answers_it same
few_deposited address words answer s s' answers_it (inr (inl h)) = absurd (answers_it _ h.1.0)
few_deposited {A} address words answer s s' answers_it (inr (inr h)) =
    absurd (omega (arith, h.1, plain_turns {A = A} s (outcome (commands.Deposit address words) s) (plain {A = A} (commands.Deposit address words) s refl)))

pub room_small : (s : State) → room_of s ≤ 64
unfolding room_of
room_small s = omega arith

keys_done : {A : Type 0} (full : Bool) (text : List ℕ) (s : State) (done : State × Answer A) (answer : Answer A) (s' : State) → nat_lt (room_of s) (length text) ≡ full → Answers answer → (if full then (s, answers.Refused KeysFull) else done) ≡ (s', answer) → length text ≤ room_of s
keys_done {A} true text s done answer s' e answers_it same = absurd (answers_it KeysFull (sym (ap (λ (r : State × Answer A). r.1) same)))
keys_done false text s done answer s' e answers_it same = grind (arith, nat_tests, e)

pub few_keys : {A : Type 0} (text : List ℕ) (answer : Answer A) (s s' : State) → Answers answer → CommandStep s (commands.Key text) answer s' → length text ≤ 64
few_keys {A} text answer s s' answers_it (inl same) =
    let room = room_small s in
    let few = keys_done {A = A} (nat_lt (room_of s) (length text)) text s _ answer s' refl answers_it same in
    omega (arith, room, few)
few_keys text answer s s' answers_it (inr (inl h)) = absurd (answers_it _ h.1.0)
few_keys {A} text answer s s' answers_it (inr (inr h)) =
    absurd (omega (arith, h.1, plain_turns {A = A} s (outcome (commands.Key text) s) (plain {A = A} (commands.Key text) s refl)))
