use Rattle.std.proofs.Common.{rules, List, ap, sym, subst}
use Rattle.std.specs.List.{All}
use Rattle.p11_store.specs.Calls.Files.{NamedBytes}
use Rattle.p11_handles.specs.Held.{Kept, kept_of}
use Rattle.p11_handles.specs.Rows.{Fits}
use Rattle.p11_handles.proofs.HeldLemmas.{file_forgotten}
use Rattle.p11_handles.proofs.StoreLemmas.{fit_without}
use Rattle.p11_handles.proofs.held_machine.HeldMachine.forget_file.Goals as goal

pub invariant_of-self : goal.invariant_of-self
invariant_of-self c =
    let P : List NamedBytes → Type 0 = λ files. All Fits files in
    subst P (sym c.forget.ensures) (fit_without c.self.inside.files.items c.args.name.now c.self.invariant)

pub returns : goal.returns
returns c =
    let Now : List NamedBytes → Kept = λ files. kept_of c.self.inside.panel files c.self.inside.answer.items in
    rw (← c.self.view_is) (file_forgotten c.args.name.now c.in-Some.field-0.now (Now c.self.inside.files.items) (Now c.forget.new.files.items) (search rules) (ap Now c.forget.ensures))
