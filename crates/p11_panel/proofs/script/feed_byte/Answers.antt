use Rattle.std.proofs.Common.{sym, subst, refl, Some, None, List, [], ℕ, append-nil}
use Rattle.std.proofs.lemmas.Result.{err_from_is_err_and}
use Rattle.p11_lines.specs.Writers.{Writes}
use Rattle.p11_lines.proofs.Calls.{Writes-none}
use Rattle.p11_lines.specs.AnswerText.{text_of}
use Rattle.p11_panel.proofs.SessionLemmas.{stands_byte, stands_line, cut_line}
use Rattle.p11_panel.proofs.script.feed_byte.Goals as goal

pub returns-then-byte-ne10-clause-ok : goal.returns-then-byte-ne10-clause-ok
returns-then-byte-ne10-clause-ok g c read s start count h =
    stands_byte read s start _ _ count _ _ c.args.byte h c.if-byte-ne10.true c.push.ensures

pub returns-in_default-clause-ok : goal.returns-in_default-clause-ok
returns-in_default-clause-ok g c read s start count h =
    stands_line read s start _ (g.W.Sink.state c.args.writer.now) count _ _ c.args.byte None _ _ 0 h c.if-byte-ne10.false c.in_default.ensures
    (Writes-none (g.W.Sink.state c.args.writer.now)) refl c.clear.ensures

pub returns-in_err-put_answer-clause-err : goal.returns-in_err-put_answer-clause-err
returns-in_err-put_answer-clause-err g c =
    let e = err_from_is_err_and c.from_residual.result c.from_residual.ensures.1 in
    rw e.1 (λ read s start count h. cut_line read s start _ (g.W.Sink.state c.args.writer.now) count _ c.args.byte c.in-Some.answer _ _ h c.if-byte-ne10.false c.in-Some.ensures c.in_err-put_answer.ensures.err)

pub returns-clause-ok : goal.returns-clause-ok
returns-clause-ok g c read s start count h =
    let written : Writes (g.W.Sink.state c.args.writer.now) (g.W.Sink.state c.put_answer.new.writer) (text_of c.in-Some.answer) [] = c.in_ok-put_answer.ensures.ok in
    stands_line read s start _ (g.W.Sink.state c.args.writer.now) count _ _ c.args.byte (Some c.in-Some.answer) _ (g.W.Sink.state c.put_answer.new.writer) 1 h c.if-byte-ne10.false c.in-Some.ensures
    (subst (λ (t : List ℕ). Writes (g.W.Sink.state c.args.writer.now) (g.W.Sink.state c.put_answer.new.writer) t []) (sym (append-nil (text_of c.in-Some.answer))) written) refl c.clear.ensures
