use Rattle.std.proofs.Common.{◌∙◌, refl, subst, ◌≡◌, to_z-of_z, w32}
use Rattle.p11_dialogue.specs.Typing.{rested}
use Rattle.p11_handles.specs.HeldConsoles.{Dialogue}
use Rattle.p11_handles.specs.declared.status.Status.TheVariants.{Done}
use Rattle.p11_handles.proofs.ConsoleLemmas.{on_none, on_some}
use Rattle.p11_c.proofs.console.p11_console_paused.Goals as goal

pub returns-in_default : goal.returns-in_default
returns-in_default c =
    on_none _ _ c.args.handle.now.slot.held c.take.new.self.slot.held _ c.in_default.ensures.taken
    (to_z-of_z {w = w32} {z = c.number.result} (record { sfits = c.number.type_inv }) ∙ c.number.ensures) c.take.ensures.none tt

pub returns : goal.returns
returns c =
    let From : Dialogue → Type 0 = λ k. c.paused.new.self ≡ record k { typist = rested k.typist } in
    on_some _ _ c.args.handle.now.slot.held c.put.new.self.slot.held _ c.in-Some.console.value c.paused.new.self Done c.in-Some.ensures.taken
    (to_z-of_z {w = w32} {z = c.number-2.result} (record { sfits = c.number-2.type_inv }) ∙ c.number-2.ensures) c.put.ensures
    (refl, subst From c.deref_mut.ensures.value c.paused.ensures)
