use Rattle.std.proofs.Common.{sym, ◌∙◌}
use Rattle.p11_rk11.proofs.Parts.{due_needless, due_prepared, prepared_if_ok, not_due_prepared}
use Rattle.p11_rk11.proofs.controller.Rk11.prepare.Goals as goal

pub returns-then-not-writes_in-clause-ok : goal.returns-then-not-writes_in-clause-ok
returns-then-not-writes_in-clause-ok g c =
    not_due_prepared c.args.turn c.args.self.now (sym c.writes_in.ensures.value ∙ c.if-not-writes_in.true)

pub prepare_drive-requires : goal.prepare_drive-requires
prepare_drive-requires g c =
    c.writes_in.ensures.place c.if-not-writes_in.false

pub returns-clause-ok : goal.returns-clause-ok
returns-clause-ok g c = prepared_if_ok c.args.turn _ _ c.prepare_drive.ensures.ok

pub returns-clause-needless : goal.returns-clause-needless
returns-clause-needless g c needless =
    c.prepare_drive.ensures.listed
    (due_needless c.args.turn c.args.self.now.state needless (sym c.writes_in.ensures.value ∙ c.if-not-writes_in.false))

pub returns-clause-again : goal.returns-clause-again
returns-clause-again g c prepared =
    c.prepare_drive.ensures.again
    (due_prepared c.args.turn c.args.self.now prepared (sym c.writes_in.ensures.value ∙ c.if-not-writes_in.false))
