use Rattle.std.proofs.Common.{◌∙◌, subst, to_z-of_z, w32}
use Rattle.p11_handles.specs.Held.{Kept}
use Rattle.p11_handles.specs.HeldCalls.{ForgetsFile}
use Rattle.p11_handles.proofs.HeldLemmas.{on_none, on_some}
use Rattle.p11_c.proofs.p11_forget.Goals as goal

pub returns-in_default : goal.returns-in_default
returns-in_default c =
    on_none _ _ c.args.handle.now.slot.held c.take.new.self.slot.held _ c.in_default.ensures.taken
    (to_z-of_z {w = w32} {z = c.number.result} (record { sfits = c.number.type_inv }) ∙ c.number.ensures) c.take.ensures.none tt

pub returns : goal.returns
returns c =
    let From : Kept → Type 0 = λ k. ForgetsFile c.args.name.now c.forget_file-status.result k c.forget_file-status.new.self in
    on_some _ _ c.args.handle.now.slot.held c.put.new.self.slot.held _ c.in-Some.machine.value c.forget_file-status.new.self c.forget_file-status.result c.in-Some.ensures.taken
    (to_z-of_z {w = w32} {z = c.number-2.result} (record { sfits = c.number-2.type_inv }) ∙ c.number-2.ensures) c.put.ensures
    (subst From c.deref_mut.ensures.value c.forget_file-status.ensures)
