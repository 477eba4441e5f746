use Rattle.std.proofs.Common.{rules, List, ap}
use Rattle.p11_store.specs.Calls.Files.{NamedBytes}
use Rattle.p11_handles.specs.Held.{Kept, kept_of}
use Rattle.p11_handles.proofs.HeldLemmas.{file_put}
use Rattle.p11_handles.proofs.held_machine.HeldMachine.put_file.Goals as goal

pub returns : goal.returns
returns c =
    let Now : List NamedBytes → Kept = λ files. kept_of c.self.inside.panel files c.self.inside.answer.items in
    rw (← c.self.view_is) (file_put c.args.name.now c.args.bytes.now (Now c.self.inside.files.items) (Now c.add_file.new.files.items) (search rules) (ap Now c.in-Ok.ensures.ok))
