-- What a typed line means.
use Rattle.std.specs.Prelude.{ℕ, ◌+◌, ◌-◌, ◌*◌, ◌/◌, Bool, true, false, not, nat_lt, nat_le, nat_eq, List, [], ◌∷◌, ◌++◌, length, replicate, slice_index, slice_get, unwrap_or}
use Rattle.std.specs.Prelude.{Option, Some, None, Result, Ok, Err, if◌then◌else◌, codes}
use Rattle.std.specs.Str.{bytes_eq}
use Rattle.p11_lines.specs.Grammar.{line_from}
use Rattle.p11_lines.specs.Calls.LineText.{line_text}
use Rattle.p11_lines.specs.declared.line.Line.{Line}
use Rattle.p11_lines.specs.declared.line.Line.TheVariants.{Examine, Deposit, Set, Regs}
use Rattle.p11_phrases.specs.Words.{trimmed, first_word, behind_word, count_of, words_of_text}
use Rattle.p11_phrases.specs.Verbs.{full_words, meant}
use Rattle.p11_phrases.specs.Registers.{is_register_address, are_registers}
use Rattle.p11_phrases.specs.Spans.{span_of}
use Rattle.p11_phrases.specs.declared.place.ExaminedPlace.{ExaminedPlace}
use Rattle.p11_phrases.specs.declared.place.ExaminedPlace.TheVariants.{Nowhere, Word, Registers}
use Rattle.p11_phrases.specs.declared.phrase.Phrase.{Phrase}
use Rattle.p11_phrases.specs.declared.refusal.Refusal.{Refusal}
use Rattle.p11_phrases.specs.declared.refusal.Refusal.TheVariants.{Ambiguous, Backwards, NoRegister, TooMany, NotCount, NotWord, OneWord}
use Rattle.p11_phrases.specs.declared.span.Location.{Location}
use Rattle.p11_phrases.specs.declared.span.Location.TheVariants as location
use Rattle.p11_phrases.specs.declared.span.Span.{Span}
use Rattle.p11_phrases.specs.declared.span.Span.TheVariants.{One, Range}
use Rattle.p11_phrases.specs.declared.verb.Meant.{Meant}
use Rattle.p11_phrases.specs.declared.verb.Meant.TheVariants as verb

-- ---- lines of the language

-- a line that is written, of which no allocator is told
abbrev pub Plain : Type 0
Plain = Line (Unit {0})

-- the text of lines, each with its end
abbrev pub script : List Plain → List ℕ
script [] = []
script (line ∷ lines) = (line_text line ++ 10 ∷ []) ++ script lines

-- what an empty line shows after so many words from an address on
abbrev pub behind_words : ℕ → ℕ → ExaminedPlace
behind_words address count = if nat_le (address + 2 * count) 0o777777 then Word (address + 2 * count) else Nowhere

-- what an empty line shows after a line
abbrev pub place_behind : {A : Type 0} → ExaminedPlace → Option (Line A) → ExaminedPlace
place_behind place (Some (Examine address count)) = behind_words address count
place_behind place _ = place

-- the phrase that a typed line is, or why it is none
abbrev pub Meaning : Type 0 → Type 0
Meaning A = Result (Phrase A) Refusal

-- the line as it was typed
abbrev pub stands : {A : Type 0} → ExaminedPlace → Meaning A
stands place = Ok (record { lines = None; place = place })

-- these lines in its place
abbrev pub becomes : {A : Type 0} → List Plain → ExaminedPlace → Meaning A
becomes lines place = Ok (record { lines = Some (script lines); place = place })

-- a text as the line in its place
abbrev pub spelled : {A : Type 0} → List ℕ → ExaminedPlace → Meaning A
spelled {A} text place = Ok (record { lines = Some (text ++ 10 ∷ []); place = place_behind place (line_from {A = A} text) })

-- ---- an empty line

-- the next word, or the registers
abbrev pub next : {A : Type 0} → ExaminedPlace → Meaning A
next Nowhere = stands Nowhere
next (Word address) = becomes (Examine address 1 ∷ []) (behind_words address 1)
next Registers = becomes (Regs ∷ []) Registers

-- ---- a full word in place of its beginning

abbrev pub full : ℕ → List ℕ
full place = unwrap_or (slice_get full_words place) []

unfoldable pub in_full : {A : Type 0} → ExaminedPlace → ℕ → List ℕ → Meaning A
in_full place word text =
    if bytes_eq (first_word text) (full word) then stands place else spelled (full word ++ behind_word text) place

-- ---- examine

-- registers that are there are shown
abbrev pub shown : {A : Type 0} → ℕ → ℕ → Meaning A
shown first last = if are_registers first last then becomes (Regs ∷ []) Registers else Err NoRegister

abbrev pub counted : {A : Type 0} → ℕ → Option ℕ → Meaning A
counted first (Some count) = shown first (first + count - 1)
counted first None = Err NotCount

-- a register, and as many behind it as a count says
abbrev pub registers_from : {A : Type 0} → ℕ → List ℕ → Meaning A
registers_from {A} first rest =
    if nat_eq (length rest) 0 then shown first first else counted first (count_of A rest)

-- how many words there are from one address to another
abbrev pub words_between : ℕ → ℕ → ℕ
words_between first last = (last - first) / 2 + 1

abbrev pub words_shown : {A : Type 0} → ℕ → ℕ → Meaning A
words_shown first last =
    if nat_lt last first then Err Backwards
    else becomes (Examine first (words_between first last) ∷ []) (behind_words first (words_between first last))

abbrev pub words_to : {A : Type 0} → ℕ → Location → Meaning A
words_to first (location.Word last) = words_shown first last
words_to first (location.Register last) = Err NoRegister
words_to first location.Missing = Err NoRegister

abbrev pub registers_to : {A : Type 0} → ℕ → Location → Meaning A
registers_to first (location.Word last) = Err NoRegister
registers_to first (location.Register last) = shown first last
registers_to first location.Missing = Err NoRegister

abbrev pub range_shown : {A : Type 0} → Location → Location → Meaning A
range_shown (location.Word first) last = words_to first last
range_shown (location.Register first) last = registers_to first last
range_shown location.Missing last = Err NoRegister

abbrev pub one_examined : {A : Type 0} → ExaminedPlace → List ℕ → List ℕ → Location → Meaning A
one_examined place text rest (location.Word address) = in_full place 5 text
one_examined place text rest (location.Register number) = registers_from number rest
one_examined place text rest location.Missing = Err NoRegister

-- `examine` with these places and what is behind them; a single address is read as the language has it
abbrev pub examined : {A : Type 0} → ExaminedPlace → List ℕ → List ℕ → Option Span → Meaning A
examined place text rest None = in_full place 5 text
examined place text rest (Some (One location)) = one_examined place text rest location
examined place text rest (Some (Range first last)) =
    if nat_eq (length rest) 0 then range_shown first last else Err NotCount

-- ---- deposit

-- the text that sets a register, with its end
abbrev pub set_text : ℕ → ℕ → List ℕ
set_text number word = line_text {A = Unit {0}} (Set number word) ++ 10 ∷ []

-- words into registers, one after the other
abbrev pub sets : ℕ → List ℕ → List Plain
sets number [] = []
sets number (word ∷ words) = Set number word ∷ sets (number + 1) words

abbrev pub set_from : {A : Type 0} → ExaminedPlace → ℕ → List ℕ → Meaning A
set_from place first words =
    if are_registers first (first + length words - 1) then becomes (sets first words) place else Err NoRegister

abbrev pub words_set : {A : Type 0} → ExaminedPlace → ℕ → Option (List ℕ) → Meaning A
words_set place first None = Err NotWord
words_set place first (Some words) = set_from place first words

-- one word into each place of a range
abbrev pub words_filled : {A : Type 0} → ExaminedPlace → ℕ → ℕ → ℕ → Meaning A
words_filled place word first last =
    if nat_lt last first then Err Backwards else (
    if nat_lt 64 (words_between first last) then Err TooMany
    else becomes (Deposit first (replicate (words_between first last) word) ∷ []) place)

abbrev pub registers_filled : {A : Type 0} → ExaminedPlace → ℕ → ℕ → ℕ → Meaning A
registers_filled place word first last =
    if are_registers first last then becomes (sets first (replicate (last + 1 - first) word)) place else Err NoRegister

abbrev pub words_filled_to : {A : Type 0} → ExaminedPlace → ℕ → ℕ → Location → Meaning A
words_filled_to place word first (location.Word last) = words_filled place word first last
words_filled_to place word first (location.Register last) = Err NoRegister
words_filled_to place word first location.Missing = Err NoRegister

abbrev pub registers_filled_to : {A : Type 0} → ExaminedPlace → ℕ → ℕ → Location → Meaning A
registers_filled_to place word first (location.Word last) = Err NoRegister
registers_filled_to place word first (location.Register last) = registers_filled place word first last
registers_filled_to place word first location.Missing = Err NoRegister

abbrev pub range_filled : {A : Type 0} → ExaminedPlace → ℕ → Location → Location → Meaning A
range_filled place word (location.Word first) last = words_filled_to place word first last
range_filled place word (location.Register first) last = registers_filled_to place word first last
range_filled place word location.Missing last = Err NoRegister

abbrev pub filled : {A : Type 0} → ExaminedPlace → Location → Location → Option (List ℕ) → Meaning A
filled place first last None = Err NotWord
filled place first last (Some words) =
    if nat_eq (length words) 1 then range_filled place (slice_index words 0) first last else Err OneWord

abbrev pub one_deposited : {A : Type 0} → ExaminedPlace → List ℕ → List ℕ → Location → Meaning A
one_deposited place text rest (location.Word address) = in_full place 6 text
one_deposited {A} place text rest (location.Register number) = words_set place number (words_of_text A rest)
one_deposited place text rest location.Missing = Err NoRegister

-- `deposit` with these places and what is behind them
abbrev pub deposited : {A : Type 0} → ExaminedPlace → List ℕ → List ℕ → Option Span → Meaning A
deposited place text rest None = in_full place 6 text
deposited place text rest (Some (One location)) = one_deposited place text rest location
deposited {A} place text rest (Some (Range first last)) = filled place first last (words_of_text A rest)

-- ---- a typed line

-- the words behind the first
abbrev pub arguments : List ℕ → List ℕ
arguments text = trimmed (behind_word text)

-- what is behind the second word
abbrev pub behind_second : List ℕ → List ℕ
behind_second text = trimmed (behind_word (arguments text))

abbrev pub by_word : {A : Type 0} → ExaminedPlace → List ℕ → ℕ → Meaning A
by_word {A} place text word =
    if nat_eq word 5 then examined place text (behind_second text) (span_of A (first_word (arguments text))) else (
    if nat_eq word 6 then deposited place text (behind_second text) (span_of A (first_word (arguments text)))
    else in_full place word text)

abbrev pub by_meant : {A : Type 0} → ExaminedPlace → List ℕ → Meant → Meaning A
by_meant place text (verb.Word word) = by_word place text word
by_meant place text verb.Several = Err Ambiguous
by_meant place text verb.Nothing = stands place

-- a text without blanks at its front that is no line of the language; # (043) begins a remark
unfoldable pub phrase_of : {A : Type 0} → ExaminedPlace → List ℕ → Meaning A
phrase_of place text =
    if nat_eq (length text) 0 then next place else (
    if nat_eq (slice_index text 0) 0o43 then stands place else by_meant place text (meant (first_word text)))

-- a line of the language stays as it is, but that which examines or deposits at an address of the registers
abbrev pub stays : {A : Type 0} → Option (Line A) → Bool
stays None = false
stays (Some (Examine address count)) = not (is_register_address address)
stays (Some (Deposit address words)) = not (is_register_address address)
stays (Some line) = true

-- what a typed line means
unfoldable pub meaning : {A : Type 0} → ExaminedPlace → List ℕ → Meaning A
meaning {A} place typed =
    if stays (line_from {A = A} typed) then stands (place_behind place (line_from {A = A} typed))
    else phrase_of place (trimmed typed)
