use Rattle.std.proofs.Common.{◌≡◌, ◌++◌, ℕ, List, sym, subst}
use Rattle.p11_lines.specs.AnswerText.{text_of}
use Rattle.p11_handles.specs.HeldRuns.{KeepsText}
use Rattle.p11_handles.proofs.HeldLemmas.{from_none}
use Rattle.p11_handles.proofs.run.answer_text.Goals as goal

pub returns-in-Ok : goal.returns-in-Ok
unfolding KeepsText
returns-in-Ok c = from_none c.new.result.items (text_of c.args.answer.now) c.put_answer.new.writer.inner.items c.new.ensures.items c.in-Ok.ensures.ok.bytes

pub returns-in-Err : goal.returns-in-Err
unfolding KeepsText
returns-in-Err c =
    let e = c.in-Err.ensures.err in
    let P : List ℕ → Type 0 = λ kept. text_of c.args.answer.now ≡ kept ++ e.back in
    (e.back, subst P (sym (from_none c.new.result.items e.front c.put_answer.new.writer.inner.items c.new.ensures.items e.written.bytes)) e.split, e.unwritten)
