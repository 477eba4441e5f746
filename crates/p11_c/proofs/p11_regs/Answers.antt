use Rattle.std.proofs.Common.{◌∙◌, refl, ap, to_z-of_z, w32}
use Rattle.p11_handles.specs.Held.{Kept}
use Rattle.p11_handles.specs.Registers.{told_registers}
use Rattle.p11_handles.specs.declared.status.Status.TheVariants.{Done}
use Rattle.p11_handles.proofs.HeldLemmas.{on_none, on_some}
use Rattle.p11_c.proofs.p11_regs.Goals as goal

pub returns-in_default : goal.returns-in_default
returns-in_default c =
    on_none _ _ c.args.handle.now.slot.held c.take.new.self.slot.held _ c.in_default.ensures.taken
    (to_z-of_z {w = w32} {z = c.number.result} (record { sfits = c.number.type_inv }) ∙ c.number.ensures) c.take.ensures.none refl

pub returns : goal.returns
returns c =
    on_some _ _ c.args.handle.now.slot.held c.put.new.self.slot.held _ c.in-Some.machine.value c.in-Some.machine.value Done c.in-Some.ensures.taken
    (to_z-of_z {w = w32} {z = c.number-2.result} (record { sfits = c.number-2.type_inv }) ∙ c.number-2.ensures) c.put.ensures
    (refl, refl, c.registers.ensures ∙ ap (λ (k : Kept). told_registers k.machine) c.deref.ensures)
