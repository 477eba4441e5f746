use Rattle.std.proofs.Common.{◌++◌, drop}
use Rattle.p11_lines.specs.AnswerText.{numbers_text}
use Rattle.p11_lines.specs.Calls.Writing.{Wrote}
use Rattle.p11_lines.proofs.packs.put_numbers.Given as goal

abbrev pub invariant-loop-number : goal.invariant-loop-number
invariant-loop-number g l = Wrote (g.W.Sink.state l.fn.writer) (g.W.Sink.state l.writer) (l.fn.table.items ++ numbers_text l.numbers) (l.table.items ++ numbers_text (drop l.number-index l.numbers))
