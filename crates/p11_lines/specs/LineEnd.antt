-- The end of a line: a CR (13) just before it is no part of the line.
use Rattle.std.specs.Prelude.{ℕ, ◌-◌, nat_eq, List, length, take, slice_index, if◌then◌else◌}

unfoldable pub without_cr : List ℕ → List ℕ
without_cr piece = if nat_eq (slice_index piece (length piece - 1)) 13 then take (length piece - 1) piece else piece
