use Rattle.std.proofs.Common.{◌≡◌, ℕ, Option, true, sym, subst, ◌∙◌}
use Rattle.p11_rk11.specs.Laws.Registers.{TransferHasPlace}
use Rattle.p11_words.specs.DueTurns.{is_due}
use Rattle.p11_rk11.specs.Kept.View.{Rk11View}
use Rattle.p11_rk11.proofs.Reachable.{due_runs}
use Rattle.p11_rk11.proofs.controller.Rk11.writes_in.Goals as goal

pub returns-clause-place : goal.returns-clause-place
returns-clause-place g c write =
    let P : Option ℕ → Type 0 = λ due. is_due c.args.turn due ≡ true in
    let Q : Rk11View → Type 0 = λ v. TransferHasPlace v.state in
    (subst Q c.self.view_is c.self.invariant.1 (due_runs c.args.turn _ (subst P c.transfer_due.ensures (sym c.is_due.ensures ∙ c.if-not-is_due.false)))).0
