use Rattle.p11_handles.proofs.RowLemmas.{read_back}
use Rattle.p11_handles.proofs.rows.rows_read_back.Goals as goal

pub returns : goal.returns
returns c = read_back
