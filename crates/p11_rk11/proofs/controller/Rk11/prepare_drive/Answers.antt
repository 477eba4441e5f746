use Rattle.std.proofs.Common.{sym, ap, ◌∙◌, subst, ◌≡◌, true}
use Rattle.p11_rk11.specs.Place.{sector_number}
use Rattle.p11_rk11.specs.State.{selected}
use Rattle.p11_rk11.specs.Kept.View.{Rk11View}
use Rattle.p11_rk11.specs.View.{is_listed}
use Rattle.p11_rk11.proofs.Parts.{visible_same, others_prepared, prepared_after, selected_seen, selected_prepared, view_same, on_ok, on_err, put_back}
use Rattle.p11_rk11.proofs.Closing.{kept_same}
use Rattle.p11_rk11.proofs.controller.Rk11.prepare_drive.Goals as goal

pub returns-clause-state : goal.returns-clause-state
returns-clause-state g c = rw (← c.self.view_is, put_back _ _ _ _ _ c.take-drive.ensures.rest c.put.ensures) (visible_same _ _ _ _ _ _ c.take-drive.ensures.taken c.prepare-outcome.ensures.visible)

pub returns-clause-ok : goal.returns-clause-ok
returns-clause-ok g c =
    rw (put_back _ _ _ _ _ c.take-drive.ensures.rest c.put.ensures)
    (on_ok _ (prepared_after _ _ _ _ c.drive-n.ensures.value c.drive-n.ensures.bound c.self.invariant.0) c.prepare-outcome.ensures.ok)

pub returns-clause-listed : goal.returns-clause-listed
returns-clause-listed g c listed =
    let P : Rk11View → Type 0 = λ v. is_listed (selected v.state) (sector_number v.state.registers.disk_address) ≡ true in
    c.prepare-outcome.ensures.listed
    (ap (λ drive. is_listed drive (sector_number c.self.inside.registers.disk_address)) (sym (selected_seen _ _ _ _ _ c.drive-n.ensures.value c.drive-n.ensures.bound c.self.invariant.0 c.take-drive.ensures.taken))
    ∙ subst P (sym c.self.view_is) listed)

pub returns-clause-again : goal.returns-clause-again
returns-clause-again g c prepared =
    c.prepare-outcome.ensures.again
    (selected_prepared _ _ _ _ _ _ c.self.view_is c.drive-n.ensures.value c.drive-n.ensures.bound c.self.invariant.0 c.take-drive.ensures.taken prepared)

pub returns-clause-others : goal.returns-clause-others
returns-clause-others g c =
    rw (← c.self.view_is, put_back _ _ _ _ _ c.take-drive.ensures.rest c.put.ensures)
    (others_prepared _ _ _ _ _ _ c.drive-n.ensures.bound c.self.invariant.0 c.take-drive.ensures.taken c.prepare-outcome.ensures.others)

pub returns-clause-err : goal.returns-clause-err
returns-clause-err g c =
    rw (put_back _ _ _ _ _ c.take-drive.ensures.rest c.put.ensures)
    (on_err _ (view_same c.args.self.now c.self.inside.registers c.self.inside.drives _ _ c.prepare-outcome.new.bay _ c.self.view_is c.take-drive.ensures.taken)
    c.prepare-outcome.ensures.err)

pub invariant_of-self : goal.invariant_of-self
invariant_of-self g c =
    rw (put_back _ _ _ _ _ c.take-drive.ensures.rest c.put.ensures)
    (kept_same c.self.inside.registers c.self.inside.drives _ _ c.prepare-outcome.new.bay _ c.take-drive.ensures.taken c.prepare-outcome.ensures.visible
    c.self.invariant)
