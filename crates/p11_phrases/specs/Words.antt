-- The words of a typed line, and the numbers that they write.
use Rattle.std.specs.Prelude.{ℕ, not, nat_eq, nat_le, List, [], ◌∷◌, ◌++◌, length, take, drop, position, Option, Some, None, unwrap_or, if◌then◌else◌, codes}
use Rattle.p11_lines.specs.Grammar.{is_blank, line_from}
use Rattle.p11_lines.specs.declared.line.Line.{Line}
use Rattle.p11_lines.specs.declared.line.Line.TheVariants.{Examine, Deposit}

-- a text without the blanks at its front
abbrev pub trimmed : List ℕ → List ℕ
trimmed text = drop (unwrap_or (position (λ byte. not (is_blank byte)) text) (length text)) text

-- where its first word ends, if no blank is at its front
abbrev pub word_end : List ℕ → ℕ
word_end text = unwrap_or (position is_blank text) (length text)

abbrev pub first_word : List ℕ → List ℕ
first_word text = take (word_end text) text

abbrev pub behind_word : List ℕ → List ℕ
behind_word text = drop (word_end text) text

-- ---- numbers, as the lines of the language have them

-- the address of a line that examines a word or more
abbrev pub address_in : {A : Type 0} → Option (Line A) → Option ℕ
address_in (Some (Examine address count)) = Some address
address_in _ = None

abbrev pub count_in : {A : Type 0} → Option (Line A) → Option ℕ
count_in (Some (Examine address count)) = Some count
count_in _ = None

-- the words of a line that deposits some
abbrev pub words_in : {A : Type 0} → Option (Line A) → Option (List ℕ)
words_in (Some (Deposit address words)) = Some words
words_in _ = None

-- the address that a word is
unfoldable pub address_of : (A : Type 0) → List ℕ → Option ℕ
address_of A word = if nat_le (length word) 6 then address_in {A = A} (line_from (codes "examine " ++ word)) else None

-- the count that a word is
unfoldable pub count_of : (A : Type 0) → List ℕ → Option ℕ
count_of A word = if nat_le (length word) 9 then count_in {A = A} (line_from (codes "examine 0 " ++ word)) else None

-- the words of the machine that a text has, at least one
unfoldable pub words_of_text : (A : Type 0) → List ℕ → Option (List ℕ)
words_of_text A text = words_in {A = A} (line_from (codes "deposit 0 " ++ text))
