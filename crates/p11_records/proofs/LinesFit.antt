-- The lines that the grammar has fit it.
use Rattle.std.proofs.Common.{◌≡◌, ℕ, zero, suc, ◌<◌, ◌≤◌, Bool, true, false, ◌&&◌, nat_lt, nat_le, nat_eq, if◌then◌else◌, List, [], ◌∷◌, length, Option, Some, None, All, refl, sym, ap, subst, ◌∙◌, arith, inl, inr}
use Rattle.std.specs.Prelude.{filter, option_and_then, unwrap_or, take}
use Rattle.std.specs.List.{slice_split}
use Rattle.std.specs.Str.{bytes_eq}
use Rattle.std.specs.Str.Parse.{digits_value}
use Rattle.std.proofs.lemmas.Bool.{cases_Bool}
use Rattle.std.proofs.lemmas.Bool.Decides.{nat_tests}
use Rattle.std.proofs.lemmas.List.Elements.{All-nil, All-cons}
use Rattle.p11_lines.specs.declared.line.Line.{Line}
use Rattle.p11_lines.specs.declared.line.Line.TheVariants as lines
use Rattle.p11_lines.specs.Calls.LineText.{FitsCount, FitsGrammar}
use Rattle.p11_lines.specs.Escapes.{escaped, is_plain}
use Rattle.p11_lines.specs.Grammar.{Reading, access_from, address_from, all_digits, all_words_from, bytes_from, bytes_past, commands as rows, count_from, count_or_none, escape_from, is_blank, is_name, is_word, line_by, line_from, line_from_words, name_from, no_word, number_from, one_word, period_from, some_words, two_words, word_and, word_from, words_of}

-- WHAT IS READ

and_some : {X Y : Type 0} (found : Option X) (next : X → Option Y) (y : Y) → option_and_then next found ≡ Some y → (x : X) × (found ≡ Some x) × (next x ≡ Some y)
and_some None next y e = cc
and_some (Some x) next y e = (x, refl, e)

kept : (some short all fits : Bool) (value n : ℕ) → (if some && short && all && fits then Some value else None) ≡ Some n → (value ≡ n) × (fits ≡ true)
kept true true true true value n e = (ap (λ (o : Option ℕ). unwrap_or o 0) e, refl)
kept true true true false value n e = cc
kept true true false fits value n e = cc
kept true false all fits value n e = cc
kept false short all fits value n e = cc

number_fits : (base places greatest : ℕ) (digits : List ℕ) (n : ℕ) → number_from base places greatest digits ≡ Some n → n ≤ greatest
unfolding number_from
number_fits base places greatest digits n e =
    let k = kept (nat_lt 0 (length digits)) (nat_le (length digits) places) (all_digits base digits) (nat_le (digits_value base digits) greatest) (digits_value base digits) n e in
    let same = k.0 in
    let fits = k.1 in
    grind (arith, nat_tests, same, fits)

count_kept : (some : Bool) (value n : ℕ) → nat_lt 0 value ≡ some → (if some then Some value else None) ≡ Some n → (value ≡ n) × (0 < value)
count_kept true value n test e = (ap (λ (o : Option ℕ). unwrap_or o 0) e, grind (arith, nat_tests, test))
count_kept false value n test e = cc

count_fits : (digits : List ℕ) (n : ℕ) → count_from digits ≡ Some n → FitsCount n
unfolding count_from
count_fits digits n e =
    let read = and_some (number_from 10 9 999999999 digits) (λ count. if nat_lt 0 count then Some count else None) n e in
    let k = count_kept (nat_lt 0 read.0) read.0 n refl read.2 in
    let most = number_fits 10 9 999999999 digits read.0 read.1 in
    let same = k.0 in
    let some = k.1 in
    (omega (arith, same, some), omega (arith, same, most))

words_fit : (texts : List (List ℕ)) (words : List ℕ) → all_words_from texts ≡ Some words → All (λ word. word ≤ 0o177777) words × (length words ≡ length texts)
unfolding all_words_from
words_fit [] words e = subst (λ (ws : List ℕ). All (λ word. word ≤ 0o177777) ws × (length ws ≡ 0)) (ap (λ (o : Option (List ℕ)). unwrap_or o []) e) (All-nil (λ word. word ≤ 0o177777), refl)
words_fit (text ∷ texts) words e =
    let first = and_some (word_from text) (λ word. option_and_then (λ more. Some (word ∷ more)) (all_words_from texts)) words e in
    let others = and_some (all_words_from texts) (λ more. Some (first.0 ∷ more)) words first.2 in
    let rest = words_fit texts others.0 others.1 in
    let same : first.0 ∷ others.0 ≡ words = ap (λ (o : Option (List ℕ)). unwrap_or o []) others.2 in
    subst (λ (ws : List ℕ). All (λ word. word ≤ 0o177777) ws × (length ws ≡ suc (length texts))) same
    (All-cons (λ word. word ≤ 0o177777) first.0 others.0 (number_fits 8 6 0o177777 text first.0 first.1) rest.0, ap suc rest.1)

-- bytes that a text writes
abbrev pub AreBytes : List ℕ → Type 0
AreBytes bytes = All (λ byte. byte ≤ 255) bytes

plain_byte : (byte : ℕ) → is_plain byte ≡ true → byte ≤ 255
plain_byte byte e = grind (arith, nat_tests, e)

no_escape : (enough : Bool) (found : Option ℕ) (n : ℕ) → (if enough then found else None) ≡ Some n → found ≡ Some n
no_escape true found n e = e
no_escape false found n e = cc

escape_byte : (digits : List ℕ) (n : ℕ) → escape_from digits ≡ Some n → n ≤ 255
unfolding escape_from
escape_byte digits n e = number_fits 8 3 0o377 (take 3 digits) n (no_escape (nat_le 3 (length digits)) (number_from 8 3 0o377 (take 3 digits)) n e)

next_byte : (byte : ℕ) (rest : Option (List ℕ)) (bytes : List ℕ) → byte ≤ 255 → ((more : List ℕ) → rest ≡ Some more → AreBytes more) → option_and_then (λ more. Some (byte ∷ more)) rest ≡ Some bytes → AreBytes bytes × (0 < length bytes)
next_byte byte rest bytes fits others e =
    let read = and_some rest (λ more. Some (byte ∷ more)) bytes e in
    let same : byte ∷ read.0 ≡ bytes = ap (λ (o : Option (List ℕ)). unwrap_or o []) read.2 in
    subst (λ (bs : List ℕ). AreBytes bs × (0 < length bs)) same (All-cons (λ b. b ≤ 255) byte read.0 fits (others read.0 read.1), omega arith)

first_byte : (byte : ℕ) (rest : List ℕ) (plain slash : Bool) (bytes : List ℕ) → is_plain byte ≡ plain → ((more : List ℕ) → bytes_past 0 rest ≡ Some more → AreBytes more) → ((more : List ℕ) → bytes_past 3 rest ≡ Some more → AreBytes more)
    → (if plain then option_and_then (λ more. Some (byte ∷ more)) (bytes_past 0 rest) else (if slash then option_and_then (λ escape. option_and_then (λ more. Some (escape ∷ more)) (bytes_past 3 rest)) (escape_from rest) else None)) ≡ Some bytes → AreBytes bytes × (0 < length bytes)
first_byte byte rest true slash bytes test next escaped e = next_byte byte (bytes_past 0 rest) bytes (plain_byte byte test) next e
first_byte byte rest false true bytes test next escaped e =
    let escape = and_some (escape_from rest) (λ escape. option_and_then (λ more. Some (escape ∷ more)) (bytes_past 3 rest)) bytes e in
    next_byte escape.0 (bytes_past 3 rest) bytes (escape_byte rest escape.0 escape.1) escaped escape.2
first_byte byte rest false false bytes test next escaped e = cc

bytes_fit : (past : ℕ) (text bytes : List ℕ) → bytes_past past text ≡ Some bytes → AreBytes bytes
unfolding bytes_past
bytes_fit past [] bytes e = subst AreBytes (ap (λ (o : Option (List ℕ)). unwrap_or o []) e) (All-nil (λ byte. byte ≤ 255))
bytes_fit zero (byte ∷ rest) bytes e =
    (first_byte byte rest (is_plain byte) (nat_eq byte 0o134) bytes refl (λ more f. bytes_fit 0 rest more f) (λ more f. bytes_fit 3 rest more f) e).0
bytes_fit (suc past) (byte ∷ rest) bytes e = bytes_fit past rest bytes e

some_bytes : (byte : ℕ) (rest bytes : List ℕ) → bytes_past 0 (byte ∷ rest) ≡ Some bytes → 0 < length bytes
unfolding bytes_past
some_bytes byte rest bytes e =
    (first_byte byte rest (is_plain byte) (nat_eq byte 0o134) bytes refl (λ more f. bytes_fit 0 rest more f) (λ more f. bytes_fit 3 rest more f) e).1

key_fits : (word bytes : List ℕ) → 0 < length word → bytes_from word ≡ Some bytes → (0 < length bytes) × AreBytes bytes
key_fits [] bytes some e = absurd (omega (arith, some))
key_fits (byte ∷ rest) bytes some e = (some_bytes byte rest bytes e, bytes_fit 0 (byte ∷ rest) bytes e)

named : (is_one : Bool) (word name : List ℕ) → is_name word ≡ is_one → (if is_one then Some word else None) ≡ Some name → is_name name ≡ true
named true word name test e = ap is_name (sym (ap (λ (o : Option (List ℕ)). unwrap_or o []) e)) ∙ test
named false word name test e = cc

name_fits : (word name : List ℕ) → name_from word ≡ Some name → is_name name ≡ true
unfolding name_from
name_fits word name e = named (is_name word) word name refl e

-- LINES

-- words that aren't empty
abbrev AreWords : List (List ℕ) → Type 0
AreWords [] = Unit {0}
AreWords (word ∷ words) = (0 < length word) × AreWords words

-- what a reading reads fits the grammar
abbrev Fit : {A : Type 0} → Reading A → Type 0
Fit {A} reading = (words : List (List ℕ)) (line : Line A) → AreWords words → reading words ≡ Some line → FitsGrammar line

line_or : {A : Type 0} → Line A → Option (Line A) → Line A
line_or other found = unwrap_or found other

alone : {A : Type 0} (line : Line A) → FitsGrammar line → Fit (no_word line)
unfolding no_word
alone {A} line fits [] other are e = subst (λ (x : Line A). FitsGrammar x) (ap (λ (o : Option (Line A)). unwrap_or o line) e) fits
alone line fits (word ∷ words) other are e = cc

first_then : {A B C : Type 0} (read : List ℕ → Option B) (others : C → Reading A) (line : B → C) → ((word : List ℕ) (value : B) → 0 < length word → read word ≡ Some value → Fit (others (line value))) → Fit (word_and read others line)
unfolding word_and
first_then read others line fit [] found are e = cc
first_then read others line fit (word ∷ words) found are e =
    let value = and_some (read word) (λ value. others (line value) words) found e in
    fit word value.0 are.0 value.1 words found are.1 value.2

drive_alone : {A : Type 0} (line : ℕ → Line A) → ((word : ℕ) → word ≤ 0o177777 → FitsGrammar (line word)) → Fit (one_word word_from line)
drive_alone line fits = first_then word_from no_word line (λ text word some e. alone (line word) (fits word (number_fits 8 6 0o177777 text word e)))

counts : {A : Type 0} (line : ℕ → Line A) → ((count : ℕ) → FitsCount count → FitsGrammar (line count)) → Fit (one_word count_from line)
counts line fits = first_then count_from no_word line (λ text count some e. alone (line count) (fits count (count_fits text count e)))

count_or : {A : Type 0} (line : ℕ → Line A) → ((count : ℕ) → FitsCount count → FitsGrammar (line count)) → Fit (count_or_none line)
unfolding count_or_none
count_or {A} line fits [] found are e = subst (λ (x : Line A). FitsGrammar x) (ap (λ (o : Option (Line A)). unwrap_or o (line 1)) e) (fits 1 (omega arith, omega arith))
count_or line fits (word ∷ words) found are e = counts line fits (word ∷ words) found are e

abbrev deposit : {A : Type 0} → ℕ → List ℕ → Option (Line A)
deposit address words = Some (lines.Deposit address words)

words_or : {A : Type 0} (address : ℕ) → address ≤ 0o777777 → Fit {A = A} (some_words (lines.Deposit address))
unfolding some_words FitsGrammar
words_or address below [] found are e = cc
words_or {A} address below (word ∷ words) found are e =
    let read = and_some (all_words_from (word ∷ words)) (deposit {A = A} address) found e in
    let fit = words_fit (word ∷ words) read.0 read.1 in
    let many = fit.1 in
    subst (λ (x : Line A). FitsGrammar x) (ap (λ (o : Option (Line A)). unwrap_or o (lines.Deposit address [])) read.2) (below, omega (arith, many), fit.0)

abbrev AllFit : {A : Type 0} → List (List ℕ × Reading A) → Type 0
AllFit [] = Unit {0}
AllFit (row ∷ rows) = Fit row.1 × AllFit rows

all_fit : (A : Type 0) → AllFit (rows {A = A})
unfolding FitsGrammar
all_fit A = (
  first_then word_from (two_words name_from access_from) lines.Mount (λ w drive some e. first_then name_from (one_word access_from) (lines.Mount drive) (λ v name more f. first_then access_from no_word (lines.Mount drive name) (λ u protect last g. alone (lines.Mount drive name protect) (number_fits 8 6 0o177777 w drive e, name_fits v name f)))),
  (
    drive_alone lines.Unmount (λ word fits. fits),
    (
      first_then word_from (one_word name_from) lines.Save (λ w drive some e. first_then name_from no_word (lines.Save drive) (λ v name more f. alone (lines.Save drive name) (number_fits 8 6 0o177777 w drive e, name_fits v name f))),
      (
        drive_alone lines.Changed (λ word fits. fits),
        (
          first_then name_from no_word lines.Load (λ w name some e. alone (lines.Load name) (name_fits w name e)),
          (
            first_then address_from count_or_none lines.Examine (λ w address some e. count_or (lines.Examine address) (λ count fits. (number_fits 8 6 0o777777 w address e, fits))),
            (
              first_then address_from some_words lines.Deposit (λ w address some e. words_or address (number_fits 8 6 0o777777 w address e)),
              (
                drive_alone lines.Start (λ word fits. fits),
                (
                  first_then bytes_from no_word lines.Key (λ w bytes some e. alone (lines.Key bytes) (key_fits w bytes some e)),
                  (
                    alone lines.Tick tt,
                    (
                      first_then period_from no_word lines.Clock (λ w period some e. alone (lines.Clock period) (number_fits 10 9 999999999 w period e)),
                      (
                        drive_alone lines.Switches (λ word fits. fits),
                        (
                          first_then word_from (one_word word_from) lines.Set (λ w register some e. first_then word_from no_word (lines.Set register) (λ v value more f. alone (lines.Set register value) (number_fits 8 6 0o177777 w register e, number_fits 8 6 0o177777 v value f))),
                          (
                            counts lines.Step (λ count fits. fits),
                            (
                              counts lines.Continue (λ count fits. fits),
                              (
                                alone lines.Regs tt,
                                (
                                  alone lines.Device tt,
                                  (alone lines.Flush tt, tt),
                                ),
                              ),
                            ),
                          ),
                        ),
                      ),
                    ),
                  ),
                ),
              ),
            ),
          ),
        ),
      ),
    ),
  ),
)

by_rows : {A : Type 0} (rows : List (List ℕ × Reading A)) (name : List ℕ) (words : List (List ℕ)) (line : Line A) → AllFit rows → AreWords words → line_by rows name words ≡ Some line → FitsGrammar line
unfolding line_by
by_rows [] name words line fit are e = cc
by_rows (row ∷ rows) name words line fit are e = by_test (bytes_eq name row.0) row.1 (line_by rows name words) words line (fit.0 words line are) (by_rows rows name words line fit.1 are) e
  where
    by_test : {A : Type 0} (same : Bool) (reading : Reading A) (others : Option (Line A)) (words : List (List ℕ)) (line : Line A) → (reading words ≡ Some line → FitsGrammar line) → (others ≡ Some line → FitsGrammar line) → (if same then reading words else others) ≡ Some line → FitsGrammar line
    by_test true reading others words line here later e = here e
    by_test false reading others words line here later e = later e

all_words : (parts : List (List ℕ)) → AreWords (filter is_word parts)
all_words [] = tt
all_words (part ∷ parts) =
    elim (cases_Bool (nat_lt 0 (length part))) [
      | inl some ↦ rw some (grind (arith, nat_tests, some), all_words parts)
      | inr none ↦ rw none (all_words parts)
    ]

by_words : {A : Type 0} (words : List (List ℕ)) (line : Line A) → AreWords words → line_from_words words ≡ Some line → FitsGrammar line
unfolding line_from_words
by_words [] line are e = cc
by_words {A} (name ∷ words) line are e = by_rows rows name words line (all_fit A) are.1 e

pub line_fits : {A : Type 0} (text : List ℕ) (line : Line A) → line_from text ≡ Some line → FitsGrammar line
unfolding line_from words_of
line_fits text line e = by_length (nat_le (length text) 4096) (filter is_word (slice_split is_blank text)) line (all_words (slice_split is_blank text)) e
  where
    by_length : {A : Type 0} (short : Bool) (words : List (List ℕ)) (line : Line A) → AreWords words → (if short then line_from_words words else None) ≡ Some line → FitsGrammar line
    by_length true words line are e = by_words words line are e
    by_length false words line are e = cc
