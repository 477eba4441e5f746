use Rattle.std.proofs.Common.{Global, List, sym, subst}
use Rattle.p11_store.specs.Calls.Files.{NamedBytes, MemoryFiles}
use Rattle.p11_handles.specs.Held.{kept_of}
use Rattle.p11_handles.specs.HeldCalls.{LinesEnd}
use Rattle.p11_handles.proofs.held_machine.play_lines.Goals as goal

pub returns-clause-lines : goal.returns-clause-lines
returns-clause-lines g c answer =
    let After : MemoryFiles → Type 0 = λ m. LinesEnd Global c.args.script.now c.run_lines-status.result.0 (kept_of c.args.panel.now m.files answer) (kept_of c.run_lines-status.new.panel c.run_lines-status.new.store.files c.run_lines-status.result.1.items) in
    let Left : List NamedBytes → Type 0 = λ fs. LinesEnd Global c.args.script.now c.run_lines-status.result.0 (kept_of c.args.panel.now c.args.files.items answer) (kept_of c.run_lines-status.new.panel fs c.run_lines-status.result.1.items) in
    subst Left (sym c.into_files.ensures.files) (subst After c.new-store.ensures (c.run_lines-status.ensures answer))
