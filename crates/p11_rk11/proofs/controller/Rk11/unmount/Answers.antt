use Rattle.std.proofs.Common.{None}
use Rattle.p11_rk11.specs.State.{disk_after_unmount}
use Rattle.p11_rk11.proofs.Parts.{drive_changed, prepared_changed}
use Rattle.p11_rk11.proofs.Closing.{kept_unmounted}
use Rattle.p11_rk11.proofs.controller.Rk11.unmount.Goals as goal

pub returns-clause-state : goal.returns-clause-state
unfolding disk_after_unmount
returns-clause-state g c = rw (← c.self.view_is, c.put.ensures) (drive_changed _ _ c.args.n None c.requires.exists)

pub returns-clause-prepared : goal.returns-clause-prepared
returns-clause-prepared g c = rw (← c.self.view_is, c.put.ensures) (prepared_changed _ c.args.n None)

pub invariant_of-self : goal.invariant_of-self
invariant_of-self g c =
    rw c.put.ensures
    (kept_unmounted c.args.self.now c.self.inside.registers c.self.inside.drives c.args.n c.self.view_is c.requires.exists c.requires.idle c.self.invariant)
