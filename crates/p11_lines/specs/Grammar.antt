-- The lines of a script: which bytes are a line, and which line they are.
use Rattle.std.specs.Prelude.{ℕ, zero, suc, Bool, true, false, ◌&&◌, ◌||◌, nat_lt, nat_le, nat_eq, List, [], ◌∷◌}
use Rattle.std.specs.Prelude.{length, take, filter, Option, Some, None, option_and_then, if◌then◌else◌, codes}
use Rattle.std.specs.List.{list_all, slice_split}
use Rattle.std.specs.Str.{bytes_eq}
use Rattle.std.specs.Char.{digit_value}
use Rattle.std.specs.Str.Parse.{digits_value}
use Rattle.p11_lines.specs.declared.line.Line.{Line}
use Rattle.p11_lines.specs.declared.line.Line.TheVariants.{Mount, Unmount, Save, Changed, Load, Examine, Deposit, Start, Key}
use Rattle.p11_lines.specs.declared.line.Line.TheVariants.{Tick, Clock, Switches, Set, Step, Continue, Regs, Device, Flush}
use Rattle.p11_lines.specs.Escapes.{is_plain}

-- the steps of a reading, of which each may find that there is no line
infixl 10 ◌>>=◌
abbrev pub ◌>>=◌ : {A B : Type 0} → Option A → (A → Option B) → Option B
o >>= f = option_and_then f o

-- ---- words: they are separated by spaces or tabs, and those at both ends don't count

abbrev pub is_blank : ℕ → Bool
is_blank byte = nat_eq byte 32 || nat_eq byte 9

abbrev pub is_word : List ℕ → Bool
is_word part = nat_lt 0 (length part)

-- the words of a text: the parts between blanks that aren't empty
unfoldable pub words_of : List ℕ → List (List ℕ)
words_of text = filter is_word (slice_split is_blank text)

-- ---- numbers

abbrev pub all_digits : ℕ → List ℕ → Bool
all_digits base digits = list_all (λ digit. nat_lt (digit_value digit) base) digits

-- the number that one digit up to so many write, where it is not above the greatest
unfoldable pub number_from : ℕ → ℕ → ℕ → List ℕ → Option ℕ
number_from base places greatest digits =
    if nat_lt 0 (length digits) && nat_le (length digits) places && all_digits base digits
    && nat_le (digits_value base digits) greatest
    then Some (digits_value base digits) else None

-- an address of the bus: one to six octal digits, at most 777777
abbrev pub address_from : List ℕ → Option ℕ
address_from digits = number_from 8 6 0o777777 digits

-- a word of the machine: one to six octal digits, at most 177777
abbrev pub word_from : List ℕ → Option ℕ
word_from digits = number_from 8 6 0o177777 digits

-- a count: one to nine decimal digits, and not 0
unfoldable pub count_from : List ℕ → Option ℕ
count_from digits = do
  count ← number_from 10 9 999999999 digits
  if nat_lt 0 count then Some count else None

-- a period: one to nine decimal digits
abbrev pub period_from : List ℕ → Option ℕ
period_from digits = number_from 10 9 999999999 digits

-- one word of the machine for each word of the line
unfoldable pub all_words_from : List (List ℕ) → Option (List ℕ)
all_words_from [] = Some []
all_words_from (first ∷ rest) = do
  word ← word_from first
  words ← all_words_from rest
  Some (word ∷ words)

-- ---- texts of bytes

-- the byte that the first three of these digits write in octal, 000 to 377
unfoldable pub escape_from : List ℕ → Option ℕ
escape_from digits = if nat_le 3 (length digits) then number_from 8 3 0o377 (take 3 digits) else None

-- The bytes that a text writes, past so many bytes of it. A byte that stands for itself writes itself, and a backslash
-- writes the byte of the three digits after it, which it takes with it.
unfoldable pub bytes_past : ℕ → List ℕ → Option (List ℕ)
bytes_past more [] = Some []
bytes_past (suc more) (byte ∷ rest) = bytes_past more rest
bytes_past zero (byte ∷ rest) =
    if is_plain byte then (do
      bytes ← bytes_past 0 rest
      Some (byte ∷ bytes))
    else (if nat_eq byte 0o134 then (do
      escape ← escape_from rest
      bytes ← bytes_past 3 rest
      Some (escape ∷ bytes))
    else None)

-- the bytes that a text writes
abbrev pub bytes_from : List ℕ → Option (List ℕ)
bytes_from text = bytes_past 0 text

-- ---- names and access

-- 041 to 176
abbrev pub is_graphic : ℕ → Bool
is_graphic byte = nat_le 0o41 byte && nat_le byte 0o176

-- a name: 1 to 255 graphic bytes
unfoldable pub is_name : List ℕ → Bool
is_name word = nat_lt 0 (length word) && nat_le (length word) 255 && list_all is_graphic word

unfoldable pub name_from : List ℕ → Option (List ℕ)
name_from word = if is_name word then Some word else None

-- whether a pack is protected from writes
abbrev pub access_text : Bool → List ℕ
access_text false = codes "rw"
access_text true = codes "ro"

unfoldable pub access_from : List ℕ → Option Bool
access_from word =
    if bytes_eq word (access_text false) then Some false else (
    if bytes_eq word (access_text true) then Some true else None)

-- ---- lines

-- how the words after a command's name are read: as a line, if they are one
abbrev pub Reading : Type 0 → Type 0
Reading A = List (List ℕ) → Option (Line A)

-- no word more
unfoldable pub no_word : {A : Type 0} → Line A → Reading A
no_word line [] = Some line
no_word line (more ∷ rest) = None

-- a first word, which `read` reads, and after it what `others` reads; the line is made of both
unfoldable pub word_and : {A B C : Type 0} → (List ℕ → Option B) → (C → Reading A) → (B → C) → Reading A
word_and read others line [] = None
word_and read others line (word ∷ rest) = do
  value ← read word
  others (line value) rest

-- so many words and no more
abbrev pub one_word : {A B : Type 0} → (List ℕ → Option B) → (B → Line A) → Reading A
one_word read = word_and read no_word

abbrev pub two_words : {A B C : Type 0} → (List ℕ → Option B) → (List ℕ → Option C) → (B → C → Line A) → Reading A
two_words first second = word_and first (one_word second)

-- a count and no more; no word is a count of 1
unfoldable pub count_or_none : {A : Type 0} → (ℕ → Line A) → Reading A
count_or_none line [] = Some (line 1)
count_or_none line (word ∷ rest) = one_word count_from line (word ∷ rest)

-- words of the machine, at least one
unfoldable pub some_words : {A : Type 0} → (List ℕ → Line A) → Reading A
some_words line [] = None
some_words line (word ∷ rest) = do
  words ← all_words_from (word ∷ rest)
  Some (line words)

-- each command's name, and how the words after it are read
abbrev pub commands : {A : Type 0} → List (List ℕ × Reading A)
commands =
    (codes "mount", word_and word_from (two_words name_from access_from) Mount)
    ∷ (codes "unmount", one_word word_from Unmount)
    ∷ (codes "save", two_words word_from name_from Save)
    ∷ (codes "changed", one_word word_from Changed)
    ∷ (codes "load", one_word name_from Load)
    ∷ (codes "examine", word_and address_from count_or_none Examine)
    ∷ (codes "deposit", word_and address_from some_words Deposit)
    ∷ (codes "start", one_word word_from Start)
    ∷ (codes "key", one_word bytes_from Key)
    ∷ (codes "tick", no_word Tick)
    ∷ (codes "clock", one_word period_from Clock)
    ∷ (codes "switches", one_word word_from Switches)
    ∷ (codes "set", two_words word_from word_from Set)
    ∷ (codes "step", one_word count_from Step)
    ∷ (codes "continue", one_word count_from Continue)
    ∷ (codes "regs", no_word Regs)
    ∷ (codes "device", no_word Device)
    ∷ (codes "flush", no_word Flush)
    ∷ []

-- the line that the words after a name are, by the row of that name
unfoldable pub line_by : {A : Type 0} → List (List ℕ × Reading A) → List ℕ → Reading A
line_by [] name args = None
line_by (row ∷ rows) name args = if bytes_eq name row.0 then row.1 args else line_by rows name args

-- the line that these words are, the command's name first
unfoldable pub line_from_words : {A : Type 0} → Reading A
line_from_words [] = None
line_from_words (name ∷ args) = line_by commands name args

-- the line that these bytes are, which have no end of line with them
unfoldable pub line_from : {A : Type 0} → List ℕ → Option (Line A)
line_from bytes = if nat_le (length bytes) 4096 then line_from_words (words_of bytes) else None
