-- Memory: the list of its words, of which word k is at address 2k.
use Rattle.std.specs.Prelude.{ℕ, zero, suc, ◌*◌, ◌/◌, ◌%◌, Bool, true, ◌==◌, ◌&&◌, nat_lt, List, length, replicate, slice_index, slice_set}

abbrev pub Words : Type 0
Words = List ℕ

-- so many thousand (1,024) words of zeros, from address 0
unfoldable pub new_memory : ℕ → Words
new_memory kwords = replicate (kwords * 1024) 0

-- whether there is memory at an address
unfoldable pub has_word : Words → ℕ → Bool
has_word words address = address % 2 == 0 && nat_lt (address / 2) (length words)

-- the word at an address that is memory
unfoldable pub word_at : Words → ℕ → ℕ
word_at words address = slice_index words (address / 2)

-- memory after one word was stored
unfoldable pub stored : Words → ℕ → ℕ → Words
stored words address word = slice_set words (address / 2) word

-- The first n words of a list are stored in their order, word k at address k; where addresses are
-- the same, the later word stays.
unfoldable pub all_stored : (ℕ → ℕ) → List ℕ → ℕ → Words → Words
all_stored address list zero words = words
all_stored address list (suc n) words = stored (all_stored address list n words) (address n) (slice_index list n)

-- whether each of the first n addresses is memory
unfoldable pub all_held : (ℕ → ℕ) → ℕ → Words → Bool
all_held address zero words = true
all_held address (suc n) words = all_held address n words && has_word words (address n)
