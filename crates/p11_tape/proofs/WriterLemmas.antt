-- What follows the last block, and what a writer makes.
use Rattle.std.proofs.Common.{◌≡◌, ℕ, ◌<◌, ◌≤◌, ◌+◌, ◌-◌, ◌%◌, ◌^◌, List, [], ◌∷◌, ◌++◌, length, replicate, sum, Some, None, Ok, map, refl, sym, ap, arith, ◌∙◌}
use Rattle.std.specs.Prelude.{All}
use Rattle.std.specs.List.{flat_map, enumerate_from}
use Rattle.std.proofs.lemmas.List.{append_assoc}
use Rattle.std.proofs.lemmas.List.Elements.{All-head, All-tail}
use Rattle.std.proofs.lemmas.List.Sums.{fold-append}
use Rattle.p11_tape.specs.Laws.Block.{Block, block_bytes, before_checksum, IsBlock, IsDataBlock, IsLastBlock, placed_by}
use Rattle.p11_tape.specs.Reading.{reading, start_of}
use Rattle.p11_tape.specs.Laws.Tape.{IsFront}
use Rattle.p11_tape.specs.Laws.Writer.{Piece, IsPiece, piece_bytes, written, pieces_placed, made_block, checksum_of}
use Rattle.p11_tape.proofs.LawLemmas.{means_read}

-- A front stays one whatever follows its rest.
front_append : (tape : List ℕ) (blocks : List Block) (rest more : List ℕ) → IsFront tape blocks rest → IsFront (tape ++ more) blocks (rest ++ more)
front_append tape [] rest more (n, e) = (n, ap (λ xs. xs ++ more) e ∙ append_assoc (replicate n 0) rest more)
front_append tape (b ∷ blocks) rest more (n, after, is, e, inner) =
    (n, after ++ more, is, ap (λ xs. xs ++ more) e ∙ append_assoc (replicate n 0) (block_bytes b ++ after) more ∙ ap (λ xs. replicate n 0 ++ xs) (append_assoc (block_bytes b) after more), front_append after blocks rest more inner)

-- A tape with a last block is read as what its blocks place and their start.
with_last : (front : List ℕ) (blocks : List Block) (last : Block) (after : List ℕ) → IsFront front blocks [] → IsLastBlock last →
    reading (front ++ (block_bytes last ++ after)) ≡ Ok (record { placed = flat_map placed_by blocks; start = start_of last.address })
with_last front blocks last after h is = means_read _ _ (record {
  blocks = blocks;
  last = Some last;
  is_tape = record { rest = block_bytes last ++ after; front = front_append front blocks [] (block_bytes last ++ after) h; ends = (after, is, refl) };
  placed_is = refl;
  start_is = refl;
})

pub read_whatever_follows : (front : List ℕ) (blocks : List Block) (last : Block) (after other : List ℕ) → IsFront front blocks [] → IsLastBlock last →
    reading (front ++ (block_bytes last ++ after)) ≡ reading (front ++ (block_bytes last ++ other))
read_whatever_follows front blocks last after other h is = with_last front blocks last after h is ∙ sym (with_last front blocks last other h is)

-- a checksum completes a sum
completes : (n : ℕ) → (n + (256 - n % 256) % 256) % 256 ≡ 0
completes n = omega arith

sum-push : (xs : List ℕ) (x : ℕ) → sum (xs ++ x ∷ []) ≡ sum xs + x
sum-push xs x = fold-append (λ a y. a + y) 0 xs (x ∷ [])

-- The block that a writer makes is sound.
made_sound : (address : ℕ) (bytes : List ℕ) → 6 + length bytes < 2 ^ 16 → address < 2 ^ 16 → address + length bytes ≤ 2 ^ 16 → IsBlock (made_block address bytes)
unfolding block_bytes
made_sound address bytes count fits within = record {
  count_fits = count;
  address_fits = fits;
  within = within;
  zero_sum = ap (λ n. n % 256) (sum-push (before_checksum address bytes) (checksum_of (before_checksum address bytes))) ∙ completes (sum (before_checksum address bytes));
}

made_data : (piece : Piece) → IsPiece piece → IsDataBlock (made_block piece.address piece.bytes)
made_data piece h = record { is_block = made_sound piece.address piece.bytes h.count_fits (omega (arith, h.some, h.within)) h.within; has_data = omega (arith, h.some) }

abbrev made_blocks : List Piece → List Block
made_blocks = map (λ piece. made_block piece.address piece.bytes)

-- A writer's tape is a front of its blocks.
written_front : (zeros : ℕ) (pieces : List Piece) → All IsPiece pieces → IsFront (written zeros pieces) (made_blocks pieces) []
written_front zeros [] all = (zeros, refl)
written_front zeros (p ∷ pieces) all =
    let block = block_bytes (made_block p.address p.bytes) in
    (zeros, written p.zeros pieces, made_data p (All-head IsPiece p pieces all), ap (λ xs. replicate zeros 0 ++ xs) (append_assoc block (replicate p.zeros 0) (flat_map piece_bytes pieces)), written_front p.zeros pieces (All-tail IsPiece p pieces all))

made_placed : (pieces : List Piece) → pieces_placed pieces ≡ flat_map placed_by (made_blocks pieces)
made_placed [] = refl
made_placed (p ∷ pieces) = ap (λ xs. enumerate_from p.address p.bytes ++ xs) (made_placed pieces)

pub written_read : (zeros : ℕ) (pieces : List Piece) → All IsPiece pieces → reading (written zeros pieces) ≡ Ok (record { placed = pieces_placed pieces; start = None })
written_read zeros pieces all = means_read _ _ (record {
  blocks = made_blocks pieces;
  last = None;
  is_tape = record { rest = []; front = written_front zeros pieces all; ends = refl };
  placed_is = made_placed pieces;
  start_is = refl;
})

pub written_read_with_last : (zeros : ℕ) (pieces : List Piece) (address : ℕ) (after : List ℕ) → All IsPiece pieces → address < 2 ^ 16 →
    reading (written zeros pieces ++ (block_bytes (made_block address []) ++ after)) ≡ Ok (record { placed = pieces_placed pieces; start = start_of address })
written_read_with_last zeros pieces address after all fits =
    let is : IsLastBlock (made_block address []) = record { is_block = made_sound address [] (omega arith) fits (omega arith); no_data = refl } in
    rw (made_placed pieces) (with_last (written zeros pieces) (made_blocks pieces) (made_block address []) after (written_front zeros pieces all) is)
