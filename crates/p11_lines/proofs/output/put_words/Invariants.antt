use Rattle.std.proofs.Common.{◌≡◌, ◌+◌, ◌*◌, ◌%◌, ◌++◌, drop}
use Rattle.p11_lines.specs.AnswerText.{exam_texts}
use Rattle.p11_lines.specs.Calls.Writing.{Wrote}
use Rattle.p11_lines.proofs.output.put_words.Given as goal

abbrev pub invariant-loop-word : goal.invariant-loop-word
invariant-loop-word g l = record {
  wrote : Wrote (g.W.Sink.state l.fn.writer) (g.W.Sink.state l.writer) (l.fn.table.items ++ exam_texts l.address l.words) (l.table.items ++ exam_texts (l.address + 2 * l.word-index) (drop l.word-index l.words));
  at_is : l.at ≡ (l.address + 2 * l.word-index) % 4294967296;
}
