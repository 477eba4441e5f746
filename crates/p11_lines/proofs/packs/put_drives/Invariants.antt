use Rattle.std.proofs.Common.{◌++◌, drop}
use Rattle.p11_lines.specs.AnswerText.{drives_text}
use Rattle.p11_lines.specs.Calls.Writing.{Wrote}
use Rattle.p11_lines.proofs.packs.put_drives.Given as goal

abbrev pub invariant-loop-number : goal.invariant-loop-number
invariant-loop-number g l = Wrote (g.W.Sink.state l.fn.writer) (g.W.Sink.state l.writer) (l.fn.table.items ++ drives_text 0 l.drives) (l.table.items ++ drives_text l.number (drop l.number l.drives))
