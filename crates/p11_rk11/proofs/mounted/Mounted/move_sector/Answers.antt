use Rattle.std.proofs.Common.{sym, ◌∙◌}
use Rattle.p11_rk11.specs.Acts.{is_refused}
use Rattle.p11_rk11.proofs.Words.{accepted}
use Rattle.p11_rk11.proofs.mounted.Mounted.move_sector.Goals as goal

pub move_words-differs-requires-clause-held : goal.move_words-differs-requires-clause-held
unfolding is_refused
move_words-differs-requires-clause-held g c uses =
    accepted _ _ (sym c.is_refused.ensures ∙ c.if-is_refused.false) uses
