-- What a sector holds: 256 words in 512 bytes, the low byte of each word first.
use Rattle.std.specs.Prelude.{ℕ, ◌-◌, ◌*◌, ◌++◌, List, drop, map, replicate}
use Rattle.std.specs.List.{flat_map, range_with_len}
use Rattle.byteorder.specs.Endian.{little_bytes, little_number}
use Rattle.p11_overlay.specs.Geometry.{sector_words}
use Rattle.p11_memory.specs.Memory.{Words, word_at}

-- the words in the bytes of a sector
unfoldable pub words_of_sector : List ℕ → List ℕ
words_of_sector bytes = map (λ k. little_number 2 (drop (2 * k) bytes)) (range_with_len 0 sector_words)

-- the bytes of words
unfoldable pub bytes_of_words : List ℕ → List ℕ
bytes_of_words words = flat_map (little_bytes 2) words

-- the words at the first n addresses
unfoldable pub words_from : (ℕ → ℕ) → ℕ → Words → List ℕ
words_from address n memory = map (λ k. word_at memory (address k)) (range_with_len 0 n)

-- n words of memory, and zeros up to the end of a sector
unfoldable pub sector_from : (ℕ → ℕ) → ℕ → Words → List ℕ
sector_from address n memory = words_from address n memory ++ replicate (sector_words - n) 0
