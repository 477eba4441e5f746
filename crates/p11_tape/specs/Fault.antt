-- What can be wrong where a block of a tape should begin.
use Rattle.std.specs.Prelude.{ℕ, ◌+◌, ◌-◌, ◌*◌, ◌%◌, ◌^◌, nat_eq, nat_lt, nat_le, not, ◌&&◌, ◌||◌, List, length, take, sum, slice_index, Option, Some, None, if◌then◌else◌}
use Rattle.p11_tape.specs.declared.fault.TapeFaultKind.{TapeFaultKind}
use Rattle.p11_tape.specs.declared.fault.TapeFaultKind.TheVariants.{Stray, Count, Short, Wrap, Sum}
use Rattle.p11_tape.specs.declared.fault.TapeFault.{TapeFault}

abbrev pub fault : TapeFaultKind → ℕ → TapeFault
fault kind at = record { kind = kind; at = at }

-- The word at a place, the low byte first.
abbrev pub word_at : List ℕ → ℕ → ℕ
word_at bytes i = slice_index bytes i + 256 * slice_index bytes (i + 1)

-- The byte count and the address in the header of a block.
unfoldable pub count_at : List ℕ → ℕ
count_at bytes = word_at bytes 2

unfoldable pub address_at : List ℕ → ℕ
address_at bytes = word_at bytes 4

-- What is wrong where a block should begin, at the offset `at` of the tape: the first of these, and its place.
unfoldable pub wrong_of : ℕ → List ℕ → Option TapeFault
wrong_of at bytes =
    -- the first byte isn't 001, or the second isn't 000: that byte
    if not (nat_eq (slice_index bytes 0) 1) then Some (fault Stray at) else (
    if nat_lt 1 (length bytes) && not (nat_eq (slice_index bytes 1) 0) then Some (fault Stray (at + 1)) else (
    -- the count is there, and is below 6: the count
    if nat_lt 3 (length bytes) && nat_lt (count_at bytes) 6 then Some (fault Count (at + 2)) else (
    -- the count isn't there, or not all that it covers and the checksum: the end of the tape
    if nat_lt (length bytes) 4 || nat_le (length bytes) (count_at bytes)
    then Some (fault Short (at + length bytes)) else (
    -- the data would go past address 177777: the block
    if nat_lt (2 ^ 16) (address_at bytes + (count_at bytes - 6)) then Some (fault Wrap at) else (
    -- the bytes don't sum to 0 modulo 2^8: the checksum
    if not (nat_eq (sum (take (count_at bytes + 1) bytes) % 2 ^ 8) 0) then Some (fault Sum (at + count_at bytes)) else
    None)))))
