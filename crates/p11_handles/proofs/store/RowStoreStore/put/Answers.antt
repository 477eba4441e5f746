use Rattle.std.proofs.Common.{ap, refl}
use Rattle.p11_store.specs.Calls.Files.{MemoryFiles}
use Rattle.p11_handles.proofs.StoreLemmas.{added}
use Rattle.p11_handles.proofs.store.RowStoreStore.put.Goals as goal

pub returns-in-Ok-clause-ok : goal.returns-in-Ok-clause-ok
returns-in-Ok-clause-ok g c =
    let kept = added c.args.self.now.files c.add.new.self.files c.args.name.now c.args.bytes.now (ap (λ (m : MemoryFiles). m.files) c.in-Ok.ensures.ok) in
    (kept.0, kept.1, ap (λ (m : MemoryFiles). m.refusals) c.in-Ok.ensures.ok, refl)
