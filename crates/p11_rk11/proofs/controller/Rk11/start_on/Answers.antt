use Rattle.std.proofs.Common.{arith}
use Rattle.p11_rk11.specs.Starts.{after_start_on}
use Rattle.p11_rk11.proofs.Parts.{selected_changed, prepared_same, put_back}
use Rattle.p11_rk11.proofs.Closing.{kept_started}
use Rattle.p11_rk11.proofs.controller.Rk11.start_on.Goals as goal

pub returns-clause-state : goal.returns-clause-state
returns-clause-state g c =
    rw (← c.self.view_is, put_back _ _ _ _ _ c.take-drive.ensures.rest c.put.ensures)
    (selected_changed _ _ _ _ _ _ _ (λ r drive. after_start_on c.args.turn r drive) c.drive-n.ensures.value c.drive-n.ensures.bound c.self.invariant.0 c.take-drive.ensures.taken c.start.ensures.started)

pub returns-clause-prepared : goal.returns-clause-prepared
returns-clause-prepared g c =
    rw (← c.self.view_is, put_back _ _ _ _ _ c.take-drive.ensures.rest c.put.ensures)
    (prepared_same _ _ _ _ _ (omega (arith, c.drive-n.ensures.bound, c.self.invariant.0)) c.take-drive.ensures.taken c.start.ensures.prepared)

pub invariant_of-self : goal.invariant_of-self
invariant_of-self g c =
    rw (put_back _ _ _ _ _ c.take-drive.ensures.rest c.put.ensures)
    (kept_started c.args.turn _ c.self.inside.registers c.start.new.registers c.self.inside.drives _ c.start.new.bay _ c.drive-n.ensures.value c.drive-n.ensures.bound c.take-drive.ensures.taken c.start.ensures.started c.self.invariant)
