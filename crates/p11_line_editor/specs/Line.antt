-- A line with a cursor in it, and what changes it.
use Rattle.std.specs.Prelude.{ℕ, zero, suc, ◌+◌, Bool, true, false, not, nat_le, nat_eq, List, ◌++◌, length, take, drop, slice_index, if◌then◌else◌}

-- the text, and how many of its characters are before the cursor
pub record Line : Type 0 where
  pub text : List ℕ
  pub cursor : ℕ

abbrev pub before : Line → List ℕ
before line = take line.cursor line.text

abbrev pub after : Line → List ℕ
after line = drop line.cursor line.text

-- these bytes in place of the text between two places
abbrev pub spliced : ℕ → ℕ → List ℕ → List ℕ → List ℕ
spliced from to bytes text = take from text ++ bytes ++ drop to text

-- The text between two places becomes these bytes, and the cursor is behind them; or nothing changes, where the line had more
-- than 4,096 bytes then. Whether it was done.
unfoldable pub replaced : ℕ → ℕ → List ℕ → Line → Line × Bool
replaced from to bytes line =
    if nat_le (length (spliced from to bytes line.text)) 4096
    then (record { text = spliced from to bytes line.text; cursor = from + length bytes }, true)
    else (line, false)

-- the cursor is elsewhere
abbrev pub moved : ℕ → Line → Line
moved place line = record { text = line.text; cursor = place }

-- ---- words

abbrev pub is_blank : ℕ → Bool
is_blank byte = nat_eq byte 32

-- the place behind the last byte before a place that passes a test
abbrev pub behind_last : (ℕ → Bool) → List ℕ → ℕ → ℕ
behind_last test text zero = zero
behind_last test text (suc place) =
    if test (slice_index text place) then suc place else behind_last test text place

-- where the word begins that ends at the place
abbrev pub word_start : List ℕ → ℕ → ℕ
word_start text place = behind_last is_blank text place

-- where the blanks begin that end at the place
abbrev pub blanks_start : List ℕ → ℕ → ℕ
blanks_start text place = behind_last (λ byte. not (is_blank byte)) text place

-- where the word begins that is before the place, with blanks between
abbrev pub last_word_start : List ℕ → ℕ → ℕ
last_word_start text place = word_start text (blanks_start text place)

-- nothing but blanks stands before the word that ends at the cursor
abbrev pub is_first : Line → Bool
is_first line = nat_eq (blanks_start line.text (word_start line.text line.cursor)) 0
