use Rattle.std.proofs.Common.{◌≡◌, map}
use Rattle.std.specs.List.{range_with_len}
use Rattle.p11_overlay.specs.Drive.{filled, sector_within}
use Rattle.p11_overlay.proofs.drive.sectors_with_bytes.Given as goal

abbrev pub invariant-loop-n : goal.invariant-loop-n
invariant-loop-n g l = l.sectors.items ≡ map (sector_within (filled l.image)) (range_with_len 0 l.n)
