use Rattle.std.proofs.Common.{◌≡◌}
use Rattle.p11_files.proofs.replacing.make_new.Given as goal

abbrev pub invariant-loop-number : goal.invariant-loop-number
invariant-loop-number g l = g.D.Disk.state l.disk ≡ g.D.Disk.state l.fn.disk
