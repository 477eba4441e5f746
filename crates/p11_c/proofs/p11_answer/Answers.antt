use Rattle.std.proofs.Common.{◌∙◌, refl, ap, to_z-of_z, w32}
use Rattle.p11_handles.specs.Held.{Kept}
use Rattle.p11_handles.proofs.HeldLemmas.{on_none, on_some, text_handed}
use Rattle.p11_c.proofs.p11_answer.Goals as goal

pub returns-in_default : goal.returns-in_default
returns-in_default c =
    on_none _ _ c.args.handle.now.slot.held c.take.new.self.slot.held _ c.in_default.ensures.taken
    (to_z-of_z {w = w32} {z = c.number.result} (record { sfits = c.number.type_inv }) ∙ c.number.ensures) c.take.ensures.none refl

pub returns : goal.returns
returns c =
    on_some _ _ c.args.handle.now.slot.held c.put.new.self.slot.held _ c.in-Some.machine.value c.in-Some.machine.value c.hand_text-status.result c.in-Some.ensures.taken
    (to_z-of_z {w = w32} {z = c.number-2.result} (record { sfits = c.number-2.type_inv }) ∙ c.number-2.ensures) c.put.ensures
    (refl, text_handed c.hand_text-status.result c.answer.result.now c.in-Some.machine.value.answer _ _ (c.answer.ensures ∙ ap (λ (k : Kept). k.answer) c.deref.ensures) c.hand_text-status.ensures)
