use Rattle.std.proofs.Common.{◌++◌, drop}
use Rattle.p11_lines.specs.Escapes.{escaped}
use Rattle.p11_lines.specs.Calls.Writing.{Wrote}
use Rattle.p11_lines.proofs.run.put_escaped.Given as goal

abbrev pub invariant-loop-byte : goal.invariant-loop-byte
invariant-loop-byte g l = Wrote (g.W.Sink.state l.fn.writer) (g.W.Sink.state l.writer) (l.fn.table.items ++ escaped l.bytes) (l.table.items ++ escaped (drop l.byte-index l.bytes))
