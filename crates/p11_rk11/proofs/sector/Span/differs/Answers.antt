use Rattle.std.proofs.Common.{◌∙◌, ap, List, ℕ, not, eqb, take}
use Rattle.std.specs.Cmp.Lexicographic.{pointwise}
use Rattle.p11_rk11.proofs.Words.{loaded_words}
use Rattle.p11_rk11.proofs.sector.Span.differs.Goals as goal

pub returns : goal.returns
returns g c =
    c.ne.ensures
    ∙ ap (λ (words : List ℕ). not (pointwise eqb words (take c.args.self.count c.args.words.now)))
    (ap (λ (words : List ℕ). take c.args.self.count words) c.load-loaded.ensures ∙ loaded_words _ _ c.args.self.count)
