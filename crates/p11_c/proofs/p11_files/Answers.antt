use Rattle.std.proofs.Common.{◌∙◌, refl, subst, to_z-of_z, w32}
use Rattle.p11_handles.specs.Calls.{lent}
use Rattle.p11_handles.specs.Held.{Kept}
use Rattle.p11_handles.specs.HeldCalls.{HandsFiles}
use Rattle.p11_handles.proofs.HeldLemmas.{on_none, on_some}
use Rattle.p11_c.proofs.p11_files.Goals as goal

pub returns-in_default : goal.returns-in_default
returns-in_default c =
    on_none _ _ c.args.handle.now.slot.held c.take.new.self.slot.held _ c.in_default.ensures.taken
    (to_z-of_z {w = w32} {z = c.number.result} (record { sfits = c.number.type_inv }) ∙ c.number.ensures) c.take.ensures.none refl

pub returns : goal.returns
returns c =
    let P : Kept → Type 0 = λ k. HandsFiles c.hand_files-status.result k.files (lent c.args.files.now c.args.files_length.now) (lent c.hand_files-status.new.out c.hand_files-status.new.out_length) in
    on_some _ _ c.args.handle.now.slot.held c.put.new.self.slot.held _ c.in-Some.machine.value c.in-Some.machine.value c.hand_files-status.result c.in-Some.ensures.taken
    (to_z-of_z {w = w32} {z = c.number-2.result} (record { sfits = c.number-2.type_inv }) ∙ c.number-2.ensures) c.put.ensures
    (refl, subst P c.deref.ensures c.hand_files-status.ensures)
