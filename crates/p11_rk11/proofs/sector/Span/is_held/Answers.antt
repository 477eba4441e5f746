use Rattle.std.proofs.Common.{◌∙◌}
use Rattle.p11_rk11.proofs.Runs.{last_held}
use Rattle.p11_rk11.proofs.sector.Span.is_held.Goals as goal

pub returns-then-is_run : goal.returns-then-is_run
returns-then-is_run g c =
    c.holds.ensures
    ∙ last_held c.args.self.start c.args.self.count _ c.args.self.stays _ (c.is_run.ensures.stays c.if-is_run.true) (c.is_run.ensures.even c.if-is_run.true) c.requires.some (c.is_run.ensures.ends c.if-is_run.true) c.of_word.ensures
