use Rattle.std.proofs.Common.{◌∙◌, refl, ap, subst, to_z-of_z, w32}
use Rattle.p11_cpu.specs.State.{State}
use Rattle.p11_handles.specs.Calls.{lent}
use Rattle.p11_handles.specs.HeldConsoles.{Dialogue}
use Rattle.p11_handles.specs.ConsoleCalls.{HandsDevices}
use Rattle.p11_handles.proofs.ConsoleLemmas.{on_none, on_some}
use Rattle.p11_c.proofs.console.p11_console_devices.Goals as goal

pub returns-in_default : goal.returns-in_default
returns-in_default c =
    on_none _ _ c.args.handle.now.slot.held c.take.new.self.slot.held _ c.in_default.ensures.taken
    (to_z-of_z {w = w32} {z = c.number.result} (record { sfits = c.number.type_inv }) ∙ c.number.ensures) c.take.ensures.none refl

pub returns : goal.returns
returns c =
    let P : State → Type 0 = λ m. HandsDevices c.hand_devices-status.result m (lent c.args.text.now c.args.text_length.now) (lent c.hand_devices-status.new.out c.hand_devices-status.new.out_length) in
    on_some _ _ c.args.handle.now.slot.held c.put.new.self.slot.held _ c.in-Some.console.value c.in-Some.console.value c.hand_devices-status.result c.in-Some.ensures.taken
    (to_z-of_z {w = w32} {z = c.number-2.result} (record { sfits = c.number-2.type_inv }) ∙ c.number-2.ensures) c.put.ensures
    (refl, subst P (c.panel.ensures ∙ ap (λ (k : Dialogue). k.machine) c.deref.ensures) c.hand_devices-status.ensures)
