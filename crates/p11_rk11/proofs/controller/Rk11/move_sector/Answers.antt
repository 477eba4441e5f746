use Rattle.std.proofs.Common.{◌≡◌, true, subst}
use Rattle.p11_rk11.specs.Acts.{after_sector_on}
use Rattle.p11_rk11.specs.Functions.{is_write}
use Rattle.p11_rk11.specs.Kept.View.{Rk11View}
use Rattle.p11_rk11.proofs.Closing.{due_place, kept_moved}
use Rattle.p11_rk11.proofs.Parts.{selected_moved, selected_prepared, prepared_to_move, put_back}
use Rattle.p11_rk11.proofs.controller.Rk11.move_sector.Goals as goal

pub move_sector-requires-clause-place : goal.move_sector-requires-clause-place
move_sector-requires-clause-place g c =
    due_place c.args.turn c.args.self.now c.self.inside.registers c.self.inside.drives c.self.view_is c.requires.due c.self.invariant

pub move_sector-requires-clause-prepared : goal.move_sector-requires-clause-prepared
move_sector-requires-clause-prepared g c write =
    let P : Rk11View → Type 0 = λ v. is_write v.state.registers.function ≡ true in
    selected_prepared _ _ _ _ _ _ c.self.view_is c.drive-n.ensures.value c.drive-n.ensures.bound c.self.invariant.0 c.take-drive.ensures.taken
    (prepared_to_move c.args.turn c.args.self.now c.requires.prepared c.requires.due (subst P c.self.view_is write))

pub returns-clause-moved : goal.returns-clause-moved
returns-clause-moved g c =
    rw (← c.self.view_is, put_back _ _ _ _ _ c.take-drive.ensures.rest c.put.ensures)
    (selected_moved _ _ _ _ _ _ _ _ _ (λ r drive memory. after_sector_on c.args.turn r drive memory) c.drive-n.ensures.value c.drive-n.ensures.bound c.self.invariant.0 c.take-drive.ensures.taken c.move_sector.ensures.moved)

pub invariant_of-self : goal.invariant_of-self
invariant_of-self g c =
    rw (put_back _ _ _ _ _ c.take-drive.ensures.rest c.put.ensures)
    (kept_moved c.args.turn _ c.self.inside.registers c.move_sector.new.registers c.self.inside.drives _ c.move_sector.new.bay _ _ _ c.drive-n.ensures.value c.drive-n.ensures.bound
    (due_place c.args.turn c.args.self.now c.self.inside.registers c.self.inside.drives c.self.view_is c.requires.due c.self.invariant) c.take-drive.ensures.taken c.move_sector.ensures.moved c.self.invariant)
