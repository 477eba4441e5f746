use Rattle.std.proofs.Common.{arith}
use Rattle.p11_lines.proofs.Pieces.{piece_put, piece_broken, pieces_put, exam_texts_drop, exam_texts_past}
use Rattle.p11_lines.proofs.output.put_words.Goals as goal

pub returns-in_err-put_word : goal.returns-in_err-put_word
returns-in_err-put_word g c =
    piece_broken _ c.from_residual.ensures.0 c.loop-word.invariant.wrote (exam_texts_drop c.args.address c.args.words.now c.loop-word.word-index c.loop-word.at c.loop-word-test.true c.loop-word.invariant.at_is) c.in_err-put_word.ensures

pub loop-word-preserved : goal.loop-word-preserved
loop-word-preserved g c = record {
  wrote = piece_put _ c.loop-word.invariant.wrote (exam_texts_drop c.args.address c.args.words.now c.loop-word.word-index c.loop-word.at c.loop-word-test.true c.loop-word.invariant.at_is) c.in_ok-put_word.ensures;
  at_is = omega (arith, c.loop-word.invariant.at_is);
}

pub returns : goal.returns
returns g c = pieces_put c.loop-word.invariant.wrote (exam_texts_past _ _ _ c.loop-word-test.false)
