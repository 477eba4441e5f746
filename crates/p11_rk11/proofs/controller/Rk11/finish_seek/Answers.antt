use Rattle.std.proofs.Common.{◌∙◌, sym, ap}
use Rattle.p11_words.specs.DueTurns.{is_due}
use Rattle.p11_rk11.proofs.Turns.{seek_not_due}
use Rattle.p11_rk11.proofs.controller.Rk11.finish_seek.Goals as goal

pub returns-else-is_due : goal.returns-else-is_due
returns-else-is_due g c =
    sym (seek_not_due c.args.turn c.args.n _ (sym (c.is_due.ensures ∙ ap (is_due c.args.turn) c.seek_due.ensures) ∙ c.if-is_due.false))
