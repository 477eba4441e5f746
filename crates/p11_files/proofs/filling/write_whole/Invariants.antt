use Rattle.std.proofs.Common.{length}
use Rattle.p11_files.proofs.FillLemmas.{Wrote}
use Rattle.p11_files.proofs.filling.write_whole.Given as goal

abbrev pub invariant-loop-rest : goal.invariant-loop-rest
invariant-loop-rest g l = Wrote (g.D.Disk.state l.fn.disk) (g.D.Disk.state l.disk) l.fn.bytes l.rest

abbrev pub decreases-loop-rest : goal.decreases-loop-rest
decreases-loop-rest g l = length l.rest
