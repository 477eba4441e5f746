use Rattle.std.proofs.Common.{rules, refl}
use Rattle.p11_handles.proofs.store.RowStoreStore.fetch.Goals as goal

-- the file is there
pub returns-in-Err-clause-err : goal.returns-in-Err-clause-err
returns-in-Err-clause-err g c = ((c.in-Some.bytes.now, search rules), refl)
