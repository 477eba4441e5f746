use Rattle.std.proofs.Common.{[], List, ℕ, ap, subst, ◌∙◌}
use Rattle.p11_lines.specs.Writers.{Writes}
use Rattle.p11_lines.specs.Written.{AppendsFront}
use Rattle.p11_lines.proofs.Pieces.{AppendsFront_wider, puts_broken, puts_through, OnErr-holds}
use Rattle.p11_lines.proofs.output.put.Goals as goal

pub returns-in_err-empty : goal.returns-in_err-empty
returns-in_err-empty g c =
    let same = ap (λ table. table.items) (OnErr-holds c.try_extend_from_slice.result c.if-is_ok.ensures.value c.try_extend_from_slice.ensures.err) in
    puts_broken c.from_residual.ensures.0 (AppendsFront_wider _ _ (subst (λ (t : List ℕ). AppendsFront (g.W.Sink.state c.args.writer.now) (g.W.Sink.state c.empty.new.writer) t) same c.in_err-empty.ensures.err))

pub returns : goal.returns
returns g c =
    let same = ap (λ table. table.items) (OnErr-holds c.try_extend_from_slice.result c.if-is_ok.ensures.value c.try_extend_from_slice.ensures.err) in
    let none = ap (λ table. table.items) (OnErr-holds c.try_extend_from_slice-2.result c.if-is_ok-2.ensures.value c.try_extend_from_slice-2.ensures.err) in
    puts_through (subst (λ (t : List ℕ). Writes (g.W.Sink.state c.args.writer.now) (g.W.Sink.state c.empty.new.writer) t []) same c.in_ok-empty.ensures.ok)
    (none ∙ c.in_ok-empty.ensures.none) c.write_out.ensures.ok c.write_out.ensures.err
