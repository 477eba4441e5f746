use Rattle.std.proofs.Common.{Some}
use Rattle.p11_rk11.proofs.Parts.{drive_changed, prepared_changed}
use Rattle.p11_rk11.proofs.Closing.{kept_mounted}
use Rattle.p11_rk11.proofs.controller.Rk11.put.Goals as goal

pub returns-clause-state : goal.returns-clause-state
returns-clause-state g c = rw (← c.self.view_is, c.put.ensures) (drive_changed _ _ c.args.n (Some c.args.mounted) c.requires)

pub returns-clause-prepared : goal.returns-clause-prepared
returns-clause-prepared g c = rw (← c.self.view_is, c.put.ensures) (prepared_changed _ c.args.n (Some c.args.mounted))

pub invariant_of-self : goal.invariant_of-self
invariant_of-self g c =
    rw c.put.ensures (kept_mounted c.self.inside.registers c.self.inside.drives c.args.n c.args.mounted c.requires c.self.invariant)
