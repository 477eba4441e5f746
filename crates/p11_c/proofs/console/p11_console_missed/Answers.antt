use Rattle.std.proofs.Common.{◌∙◌, refl, subst, Err, to_z-of_z, w32}
use Rattle.p11_console.specs.Files.{Gives}
use Rattle.p11_handles.specs.ConsoleCalls.{error_of}
use Rattle.p11_handles.specs.HeldConsoles.{Dialogue}
use Rattle.p11_handles.specs.declared.status.Status.TheVariants.{Done}
use Rattle.p11_handles.proofs.ConsoleLemmas.{on_none, on_some}
use Rattle.p11_c.proofs.console.p11_console_missed.Goals as goal

pub returns-in_default : goal.returns-in_default
returns-in_default c =
    on_none _ _ c.args.handle.now.slot.held c.take.new.self.slot.held _ c.in_default.ensures.taken
    (to_z-of_z {w = w32} {z = c.number.result} (record { sfits = c.number.type_inv }) ∙ c.number.ensures) c.take.ensures.none tt

pub returns : goal.returns
returns c =
    let From : Dialogue → Type 0 = λ k. Gives (Err (error_of c.args.trouble)) k.activity k c.missed.new.self in
    on_some _ _ c.args.handle.now.slot.held c.put.new.self.slot.held _ c.in-Some.console.value c.missed.new.self Done c.in-Some.ensures.taken
    (to_z-of_z {w = w32} {z = c.number-2.result} (record { sfits = c.number-2.type_inv }) ∙ c.number-2.ensures) c.put.ensures
    (refl, subst From c.deref_mut.ensures.value c.missed.ensures)
