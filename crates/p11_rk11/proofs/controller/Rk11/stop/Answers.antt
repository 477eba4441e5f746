use Rattle.std.proofs.Common.{arith}
use Rattle.p11_rk11.specs.State.{drive_after_init}
use Rattle.p11_rk11.proofs.Parts.{drive_mapped, prepared_same, put_back}
use Rattle.p11_rk11.proofs.Closing.{kept_stopped}
use Rattle.p11_rk11.proofs.controller.Rk11.stop.Goals as goal

pub returns-clause-state : goal.returns-clause-state
returns-clause-state g c =
    rw (← c.self.view_is, put_back _ _ _ _ _ c.take-drive.ensures.rest c.put.ensures)
    (drive_mapped _ _ c.args.n _ _ _ drive_after_init c.requires c.self.invariant.0 c.take-drive.ensures.taken c.stop.ensures.visible)

pub returns-clause-prepared : goal.returns-clause-prepared
returns-clause-prepared g c =
    rw (← c.self.view_is, put_back _ _ _ _ _ c.take-drive.ensures.rest c.put.ensures)
    (prepared_same _ _ _ _ _ (omega (arith, c.requires, c.self.invariant.0)) c.take-drive.ensures.taken c.stop.ensures.prepared)

pub invariant_of-self : goal.invariant_of-self
invariant_of-self g c =
    rw (put_back _ _ _ _ _ c.take-drive.ensures.rest c.put.ensures)
    (kept_stopped c.self.inside.registers c.self.inside.drives c.args.n _ c.stop.new.bay _ c.requires c.take-drive.ensures.taken c.stop.ensures.visible c.self.invariant)
