use Rattle.std.proofs.Common.{length}
use Rattle.p11_lines.specs.Calls.Writing.{Wrote}
use Rattle.p11_run.proofs.finish.say.Given as goal

abbrev pub invariant-loop-rest : goal.invariant-loop-rest
invariant-loop-rest g l = Wrote (g.W.Sink.state l.fn.writer) (g.W.Sink.state l.writer) l.fn.text l.rest

abbrev pub decreases-loop-rest : goal.decreases-loop-rest
decreases-loop-rest g l = length l.rest
