-- The tape that a writer makes of given blocks.
use Rattle.std.specs.Prelude.{ℕ, ◌+◌, ◌-◌, ◌%◌, ◌^◌, ◌<◌, ◌≤◌, List, ◌++◌, length, replicate, sum}
use Rattle.std.specs.List.{flat_map, enumerate_from}
use Rattle.p11_tape.specs.Laws.Block.{Block, before_checksum, block_bytes}

-- The checksum that a writer punches: what the sum of the bytes before it lacks to a multiple of 2^8.
abbrev pub checksum_of : List ℕ → ℕ
checksum_of bytes = (2 ^ 8 - sum bytes % 2 ^ 8) % 2 ^ 8

-- The block that a writer makes of an address and data bytes.
abbrev pub made_block : ℕ → List ℕ → Block
made_block address bytes =
    record { address = address; bytes = bytes; checksum = checksum_of (before_checksum address bytes) }

-- A piece of what is to be written: data bytes for an address, and how many zeros follow their block.
pub record Piece : Type 0 where
  pub address : ℕ
  pub bytes : List ℕ
  pub zeros : ℕ

-- A block holds such a piece: it isn't empty, its count is a word, and memory reaches so far.
pub record IsPiece (piece : Piece) : Type 0 where
  pub some : 0 < length piece.bytes
  pub count_fits : 6 + length piece.bytes < 2 ^ 16
  pub within : piece.address + length piece.bytes ≤ 2 ^ 16

-- A writer's tape: zeros, and then the block of each piece with its zeros.
abbrev pub piece_bytes : Piece → List ℕ
piece_bytes piece = block_bytes (made_block piece.address piece.bytes) ++ replicate piece.zeros 0

abbrev pub written : ℕ → List Piece → List ℕ
written zeros pieces = replicate zeros 0 ++ flat_map piece_bytes pieces

-- The data bytes that the pieces place, each with its address.
abbrev pub pieces_placed : List Piece → List (ℕ × ℕ)
pieces_placed pieces = flat_map (λ piece. enumerate_from piece.address piece.bytes) pieces
