use Rattle.std.proofs.Common.{◌∙◌, List, ℕ, refl, ap, subst, to_z-of_z, w32}
use Rattle.p11_handles.specs.Calls.{lent}
use Rattle.p11_handles.specs.HeldConsoles.{Dialogue}
use Rattle.p11_handles.specs.ConsoleCalls.{HandsFront}
use Rattle.p11_handles.specs.declared.status.Status.TheVariants.{Done}
use Rattle.p11_handles.proofs.ConsoleLemmas.{on_none, on_some}
use Rattle.p11_c.proofs.console.p11_console_screen.Goals as goal

pub returns-in_default : goal.returns-in_default
returns-in_default c =
    on_none _ _ c.args.handle.now.slot.held c.take.new.self.slot.held _ c.in_default.ensures.taken
    (to_z-of_z {w = w32} {z = c.number.result} (record { sfits = c.number.type_inv }) ∙ c.number.ensures) c.take.ensures.none refl

pub returns : goal.returns
returns c =
    let P : List ℕ → Type 0 = λ t. HandsFront t (lent c.args.bytes.now c.args.bytes_length.now) (lent c.hand_front.new.out c.hand_front.new.out_length) in
    on_some _ _ c.args.handle.now.slot.held c.put.new.self.slot.held _ c.in-Some.console.value c.in-Some.console.value Done c.in-Some.ensures.taken
    (to_z-of_z {w = w32} {z = c.number-2.result} (record { sfits = c.number-2.type_inv }) ∙ c.number-2.ensures) c.put.ensures
    (refl, refl, subst P (c.screen.ensures ∙ ap (λ (k : Dialogue). k.screen) c.deref.ensures) c.hand_front.ensures)
