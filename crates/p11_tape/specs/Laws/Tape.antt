-- The grammar of an absolute tape, and what it gives a tape to mean: another way to say what reading says.
use Rattle.std.specs.Prelude.{◌≡◌, ℕ, List, [], ◌∷◌, ◌++◌, replicate, Option, Some, None}
use Rattle.std.specs.List.{flat_map}
use Rattle.p11_tape.specs.Laws.Block.{Block, block_bytes, IsDataBlock, IsLastBlock, placed_by}
use Rattle.p11_tape.specs.Reading.{Meaning, start_of}

-- A tape begins with zeros, then any number of data blocks, each followed by zeros; the rest comes after those.
abbrev pub IsFront : List ℕ → List Block → List ℕ → Type 0
IsFront tape [] rest = (zeros : ℕ) × (tape ≡ replicate zeros 0 ++ rest)
IsFront tape (block ∷ blocks) rest =
    (zeros : ℕ) × (after : List ℕ) × IsDataBlock block × (tape ≡ replicate zeros 0 ++ (block_bytes block ++ after))
    × IsFront after blocks rest

-- The rest of a tape is its end, or a last block and any bytes after it.
abbrev pub IsEnd : List ℕ → Option Block → Type 0
IsEnd rest None = rest ≡ []
IsEnd rest (Some block) = (after : List ℕ) × IsLastBlock block × (rest ≡ block_bytes block ++ after)

-- The bytes are a tape of these data blocks, and of this last block if there is one.
pub record IsTape (tape : List ℕ) (blocks : List Block) (last : Option Block) : Type 0 where
  pub rest : List ℕ
  pub front : IsFront tape blocks rest
  pub ends : IsEnd rest last

-- The start address that a tape gives: that of its last block, or none without one.
abbrev pub start_by : Option Block → Option ℕ
start_by None = None
start_by (Some block) = start_of block.address

-- The bytes are a tape, and this is what it means.
pub record Means (tape : List ℕ) (meaning : Meaning) : Type 0 where
  pub blocks : List Block
  pub last : Option Block
  pub is_tape : IsTape tape blocks last
  pub placed_is : meaning.placed ≡ flat_map placed_by blocks
  pub start_is : meaning.start ≡ start_by last
