use Rattle.std.proofs.Common.{◌≡◌, take}
use Rattle.std.specs.List.{concat}
use Rattle.p11_overlay.proofs.drive.Drive.image.Given as goal

abbrev pub invariant-loop-n : goal.invariant-loop-n
invariant-loop-n g l = l.image.items ≡ concat (take l.n l.self.contents.sectors)
