use Rattle.std.proofs.Common.{length}
use Rattle.p11_shown.proofs.Writing.{Taken}
use Rattle.p11_shown.proofs.outlet.write_whole.Given as goal

abbrev pub invariant-loop-rest : goal.invariant-loop-rest
invariant-loop-rest g l = Taken (g.W.Write.contents l.fn.writer) (g.W.Write.contents l.writer) l.fn.bytes l.rest

abbrev pub decreases-loop-rest : goal.decreases-loop-rest
decreases-loop-rest g l = length l.rest
