-- What an absolute tape means, or the first thing that is wrong with it: its bytes are read from the front, as the
-- Absolute Loader reads them.
use Rattle.std.specs.Prelude.{ℕ, zero, suc, ◌+◌, ◌-◌, ◌%◌, nat_eq, List, [], ◌∷◌, ◌++◌, take, drop, Option, Some, None, Result, Ok, Err, if◌then◌else◌}
use Rattle.std.specs.List.{enumerate_from}
use Rattle.p11_tape.specs.declared.fault.TapeFault.{TapeFault}
use Rattle.p11_tape.specs.Fault.{count_at, address_at, wrong_of}

-- What a tape means: its data bytes, each with its address, in tape order, and its start address or none.
pub record Meaning : Type 0 where
  pub placed : List (ℕ × ℕ)
  pub start : Option ℕ

-- A tape that ends here: with no start address where its bytes end, and with that of a last block.
abbrev pub end_with : Option ℕ → Result Meaning TapeFault
end_with start = Ok (record { placed = []; start = start })

-- The start address that a last block gives: its own address, or none if that is odd.
abbrev pub start_of : ℕ → Option ℕ
start_of address = if nat_eq (address % 2) 0 then Some address else None

-- The data bytes of the block that begins here, each with its address: they go to one address after another.
abbrev pub placed_at : List ℕ → List (ℕ × ℕ)
placed_at bytes = enumerate_from (address_at bytes) (take (count_at bytes - 6) (drop 6 bytes))

-- Data bytes, and then what the rest of the tape means.
unfoldable pub and_then : List (ℕ × ℕ) → Result Meaning TapeFault → Result Meaning TapeFault
and_then placed (Ok rest) = Ok (record { placed = placed ++ rest.placed; start = rest.start })
and_then placed (Err fault) = Err fault

-- A block that begins here: a block with something wrong is the tape's fault, a block of count 6 has no data and is
-- the last, and any other is followed by the rest of the tape.
abbrev pub block_read : Option TapeFault → List ℕ → Result Meaning TapeFault → Result Meaning TapeFault
block_read (Some fault) bytes rest = Err fault
block_read None bytes rest =
    if nat_eq (count_at bytes) 6 then end_with (start_of (address_at bytes)) else and_then (placed_at bytes) rest

-- The bytes at an offset of the tape, of which so many belong to the block before them. Zeros between blocks are
-- passed over. A block has its count of bytes and one more, the checksum.
unfoldable pub read_on : ℕ → ℕ → List ℕ → Result Meaning TapeFault
read_on passed at [] = end_with None
read_on (suc passed) at (byte ∷ rest) = read_on passed (at + 1) rest
read_on zero at (zero ∷ rest) = read_on zero (at + 1) rest
read_on zero at (byte ∷ rest) =
    block_read (wrong_of at (byte ∷ rest)) (byte ∷ rest) (read_on (count_at (byte ∷ rest)) (at + 1) rest)

-- What the bytes of a tape mean, or their fault.
abbrev pub reading : List ℕ → Result Meaning TapeFault
reading tape = read_on 0 0 tape
