-- A block of a tape in the absolute binary format of the PDP-11 paper tape software: its parts and its bytes.
use Rattle.std.specs.Prelude.{◌≡◌, ℕ, ◌+◌, ◌/◌, ◌%◌, ◌^◌, ◌<◌, ◌≤◌, List, [], ◌∷◌, ◌++◌, length, sum}
use Rattle.std.specs.List.{enumerate_from}

-- What differs from block to block: the address of its first data byte, its data bytes, and its checksum.
pub record Block : Type 0 where
  pub address : ℕ
  pub bytes : List ℕ
  pub checksum : ℕ

-- The byte count of a block covers its header, which is six bytes, and its data, and not its checksum.
abbrev pub count_of : Block → ℕ
count_of block = 6 + length block.bytes

-- A word is two bytes, the low byte first.
abbrev pub word_bytes : ℕ → List ℕ
word_bytes word = word % 256 ∷ word / 256 ∷ []

-- All of a block but its checksum: the header, which is 001, 000, the count and the address, and the data.
unfoldable pub before_checksum : ℕ → List ℕ → List ℕ
before_checksum address bytes = 1 ∷ 0 ∷ (word_bytes (6 + length bytes) ++ word_bytes address ++ bytes)

-- The bytes of a block.
unfoldable pub block_bytes : Block → List ℕ
block_bytes block = before_checksum block.address block.bytes ++ block.checksum ∷ []

-- A sound block: count and address are words, no data goes past address 177777, and all bytes sum to 0 modulo 2^8.
pub record IsBlock (block : Block) : Type 0 where
  pub count_fits : count_of block < 2 ^ 16
  pub address_fits : block.address < 2 ^ 16
  pub within : block.address + length block.bytes ≤ 2 ^ 16
  pub zero_sum : sum (block_bytes block) % 2 ^ 8 ≡ 0

-- A block with a count above 6 has data for memory.
pub record IsDataBlock (block : Block) : Type 0 where
  pub is_block : IsBlock block
  pub has_data : 6 < count_of block

-- A block of count 6 has none, and is the last.
pub record IsLastBlock (block : Block) : Type 0 where
  pub is_block : IsBlock block
  pub no_data : count_of block ≡ 6

-- The data bytes of a block, each with its address: they lie one behind another from the block's address on.
abbrev pub placed_by : Block → List (ℕ × ℕ)
placed_by block = enumerate_from block.address block.bytes
