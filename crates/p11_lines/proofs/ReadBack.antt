-- The text of a line reads as the line.
use Rattle.std.proofs.Common.{◌≡◌, ℕ, suc, get_or, ◌<◌, ◌≤◌, Bool, true, false, ◌&&◌, nat_lt, nat_le, List, [], ◌∷◌, length, map, refl, ap, ◌∙◌, arith, Some, All, codes}
use Rattle.std.specs.List.{list_all}
use Rattle.std.specs.Fmt.{decimal}
use Rattle.std.proofs.lemmas.Bool.{and_parts, ltb-true, leb-true}
use Rattle.std.proofs.lemmas.Bool.Decides.{nat_tests}
use Rattle.std.proofs.lemmas.List.Elements.{All-nil, All-cons, All-append}
use Rattle.std.proofs.lemmas.List.Sums.{AllPass-from_list_all}
use Rattle.p11_lines.specs.declared.line.Line.{Line}
use Rattle.p11_lines.specs.declared.line.Line.TheVariants.{Mount, Unmount, Save, Changed, Load, Examine, Deposit, Start, Key, Tick, Clock, Switches, Set, Step, Continue, Regs, Device, Flush}
use Rattle.p11_lines.specs.Grammar.{is_blank, words_of, address_from, word_from, all_words_from, period_from, no_word, word_and, count_or_none, some_words, line_by, line_from_words, line_from, is_graphic, is_name, name_from, access_text, access_from}
use Rattle.p11_lines.specs.Calls.LineText.{octal, line_words, with_spaces, line_text, FitsGrammar}
use Rattle.p11_lines.specs.Escapes.{escaped}
use Rattle.p11_lines.proofs.Escapes.{bytes_from-escaped, graphs_of-escaped, some-escaped}
use Rattle.p11_lines.proofs.Parts.{words_of-nil, words_of-word, words_of-last}
use Rattle.p11_lines.proofs.Numbers.{number_from-Writes, graphs_from-AllDigits, octal-Writes, decimal-Writes, count_from-decimal}

-- a word of a text: some bytes, and no blank or control character among them
abbrev IsPart : List ℕ → Type 0
IsPart word = All (λ byte. 33 ≤ byte) word × (0 < length word)

graph : (byte : ℕ) → 33 ≤ byte → is_blank byte ≡ false
graph byte above = grind (arith, nat_tests)

graphs : (word : List ℕ) → IsPart word → All (λ byte. is_blank byte ≡ false) word
graphs word part = λ k d below. graph (get_or word k d) (part.0 k d below)

abbrev AreParts : List (List ℕ) → Type 0
AreParts [] = Unit {0}
AreParts (word ∷ words) = IsPart word × AreParts words

-- the words of a text of such words
words_of-with_spaces : (words : List (List ℕ)) → AreParts words → words_of (with_spaces words) ≡ words
words_of-with_spaces [] parts = words_of-nil
words_of-with_spaces (word ∷ []) parts = words_of-last word (graphs word parts.0) parts.0.1
words_of-with_spaces (word ∷ next ∷ rest) parts =
    words_of-word word 32 (with_spaces (next ∷ rest)) (graphs word parts.0) parts.0.1 refl
    ∙ ap (λ (ws : List (List ℕ)). word ∷ ws) (words_of-with_spaces (next ∷ rest) parts.1)

-- a number in octal or decimal is one word, and reads as itself
octal-part : (number : ℕ) → number ≤ 262143 → IsPart (octal number)
octal-part number small = (graphs_from-AllDigits 8 (octal number) (omega arith) (octal-Writes number small).all, (octal-Writes number small).some)

word-part : (word : ℕ) → word ≤ 65535 → IsPart (octal word)
word-part word small = octal-part word (omega arith)

decimal-part : (number : ℕ) → number ≤ 999999999 → IsPart (decimal number)
decimal-part number small = (graphs_from-AllDigits 10 (decimal number) (omega arith) (decimal-Writes number small).all, (decimal-Writes number small).some)

address_from-octal : (address : ℕ) → address ≤ 262143 → address_from (octal address) ≡ Some address
address_from-octal address small = number_from-Writes 8 6 262143 address (octal address) (octal-Writes address small) small

word_from-octal : (word : ℕ) → word ≤ 65535 → word_from (octal word) ≡ Some word
word_from-octal word small = number_from-Writes 8 6 65535 word (octal word) (octal-Writes word (omega arith)) small

period_from-decimal : (period : ℕ) → period ≤ 999999999 → period_from (decimal period) ≡ Some period
period_from-decimal period fits = number_from-Writes 10 9 999999999 period (decimal period) (decimal-Writes period fits) fits

-- and so do words of the machine
word-parts : (words : List ℕ) → All (λ word. word ≤ 65535) words → AreParts (map octal words)
word-parts [] small = tt
word-parts (word ∷ words) small = (word-part word (small 0 0 (omega arith)), word-parts words (λ k d below. small (suc k) d (omega arith)))

all_words_from-octal : (words : List ℕ) → All (λ word. word ≤ 65535) words → all_words_from (map octal words) ≡ Some words
unfolding all_words_from
all_words_from-octal [] small = refl
all_words_from-octal (word ∷ words) small =
    rw (word_from-octal word (small 0 0 (omega arith)), all_words_from-octal words (λ k d below. small (suc k) d (omega arith))) refl

-- a word that is spelled out is one, which a test tells
spelled : (word : List ℕ) → list_all (nat_le 33) word ≡ true → 0 < length word → IsPart word
spelled word test some = (λ k d below. leb-true _ _ (AllPass-from_list_all (nat_le 33) word test k d below), some)

-- a name reads as itself, and has no blank
name_from-name : (name : List ℕ) → is_name name ≡ true → name_from name ≡ Some name
unfolding name_from
name_from-name name named = rw named refl

graph_of-graphic : (byte : ℕ) → is_graphic byte ≡ true → 33 ≤ byte
graph_of-graphic byte graphic = grind (arith, nat_tests)

name-part : (name : List ℕ) → is_name name ≡ true → IsPart name
unfolding is_name
name-part name named =
    let tests = and_parts (nat_lt 0 (length name) && nat_le (length name) 255) (list_all is_graphic name) named in (
      λ k d below. graph_of-graphic (get_or name k d) (AllPass-from_list_all is_graphic name tests.1 k d below),
      ltb-true _ _ (and_parts (nat_lt 0 (length name)) (nat_le (length name) 255) tests.0).0,
    )

access-part : (protect : Bool) → IsPart (access_text protect)
access-part false = spelled (codes "rw") refl (omega arith)
access-part true = spelled (codes "ro") refl (omega arith)

access_from-access : (protect : Bool) → access_from (access_text protect) ≡ Some protect
unfolding access_from
access_from-access false = refl
access_from-access true = refl

escaped-part : (text : List ℕ) → 0 < length text → IsPart (escaped text)
escaped-part text some = (graphs_of-escaped text, some-escaped text some)

-- the words of a line, which read as the line
abbrev Reads : {A : Type 0} → Line A → Type 0
Reads line = AreParts (line_words line) × (line_from_words (line_words line) ≡ Some line)

reads : {A : Type 0} (line : Line A) → FitsGrammar line → Reads line
unfolding FitsGrammar line_from_words line_by word_and no_word count_or_none some_words
reads (Mount drive name protect) fits = ((spelled (codes "mount") refl (omega arith), (word-part drive fits.0, (name-part name fits.1, (access-part protect, tt)))), rw (word_from-octal drive fits.0, name_from-name name fits.1, access_from-access protect) refl)
reads (Unmount drive) fits = ((spelled (codes "unmount") refl (omega arith), (word-part drive fits, tt)), rw (word_from-octal drive fits) refl)
reads (Save drive name) fits = ((spelled (codes "save") refl (omega arith), (word-part drive fits.0, (name-part name fits.1, tt))), rw (word_from-octal drive fits.0, name_from-name name fits.1) refl)
reads (Changed drive) fits = ((spelled (codes "changed") refl (omega arith), (word-part drive fits, tt)), rw (word_from-octal drive fits) refl)
reads (Load name) fits = ((spelled (codes "load") refl (omega arith), (name-part name fits, tt)), rw (name_from-name name fits) refl)
reads (Examine address count) fits = ((spelled (codes "examine") refl (omega arith), (octal-part address fits.0, (decimal-part count fits.1.1, tt))), rw (address_from-octal address fits.0, count_from-decimal count fits.1) refl)
reads (Deposit address []) fits = absurd (omega (arith, fits.1))
reads (Deposit address (word ∷ words)) fits = ((spelled (codes "deposit") refl (omega arith), (octal-part address fits.0, word-parts (word ∷ words) fits.2)), rw (address_from-octal address fits.0, all_words_from-octal (word ∷ words) fits.2) refl)
reads (Start address) fits = ((spelled (codes "start") refl (omega arith), (word-part address fits, tt)), rw (word_from-octal address fits) refl)
reads (Key text) fits = ((spelled (codes "key") refl (omega arith), (escaped-part text fits.0, tt)), rw (bytes_from-escaped text fits.1) refl)
reads Tick fits = ((spelled (codes "tick") refl (omega arith), tt), refl)
reads (Clock period) fits = ((spelled (codes "clock") refl (omega arith), (decimal-part period fits, tt)), rw (period_from-decimal period fits) refl)
reads (Switches word) fits = ((spelled (codes "switches") refl (omega arith), (word-part word fits, tt)), rw (word_from-octal word fits) refl)
reads (Set register value) fits = ((spelled (codes "set") refl (omega arith), (word-part register fits.0, (word-part value fits.1, tt))), rw (word_from-octal register fits.0, word_from-octal value fits.1) refl)
reads (Step turns) fits = ((spelled (codes "step") refl (omega arith), (decimal-part turns fits.1, tt)), rw (count_from-decimal turns fits) refl)
reads (Continue turns) fits = ((spelled (codes "continue") refl (omega arith), (decimal-part turns fits.1, tt)), rw (count_from-decimal turns fits) refl)
reads Regs fits = ((spelled (codes "regs") refl (omega arith), tt), refl)
reads Device fits = ((spelled (codes "device") refl (omega arith), tt), refl)
reads Flush fits = ((spelled (codes "flush") refl (omega arith), tt), refl)

-- no byte of a text of such words is a control character
visible : (words : List (List ℕ)) → AreParts words → All (λ byte. 32 ≤ byte) (with_spaces words)
visible [] parts = All-nil (λ byte. 32 ≤ byte)
visible (word ∷ []) parts = λ k d below. omega (arith, parts.0.0 k d below)
visible (word ∷ next ∷ rest) parts =
    All-append (λ byte. 32 ≤ byte) word (32 ∷ with_spaces (next ∷ rest)) (λ k d below. omega (arith, parts.0.0 k d below))
    (All-cons (λ byte. 32 ≤ byte) 32 (with_spaces (next ∷ rest)) (omega arith) (visible (next ∷ rest) parts.1))

pub visible-line_text : {A : Type 0} (line : Line A) → FitsGrammar line → All (λ byte. 32 ≤ byte) (line_text line)
unfolding line_text
visible-line_text line fits = visible (line_words line) (reads line fits).0

pub line_from-line_text : {A : Type 0} (line : Line A) → FitsGrammar line → length (line_text line) ≤ 4096 → line_from (line_text line) ≡ Some line
unfolding line_text line_from
line_from-line_text line fits short =
    let within : nat_le (length (with_spaces (line_words line))) 4096 ≡ true = grind (arith, nat_tests) in
    rw (within, words_of-with_spaces (line_words line) (reads line fits).0) (reads line fits).1
