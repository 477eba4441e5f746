use Rattle.std.proofs.Common.{◌++◌, drop}
use Rattle.p11_lines.specs.AnswerText.{spaced_text}
use Rattle.p11_lines.specs.Calls.Writing.{Wrote}
use Rattle.p11_lines.proofs.output.put_spaced.Given as goal

abbrev pub invariant-loop-word : goal.invariant-loop-word
invariant-loop-word g l = Wrote (g.W.Sink.state l.fn.writer) (g.W.Sink.state l.writer) (l.fn.table.items ++ spaced_text l.words) (l.table.items ++ spaced_text (drop l.word-index l.words))
