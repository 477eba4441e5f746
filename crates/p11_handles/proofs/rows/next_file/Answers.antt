use Rattle.p11_handles.proofs.RowLemmas.{no_name, no_bytes, a_file}
use Rattle.p11_handles.proofs.rows.next_file.Goals as goal

pub returns-in_default-clause-file : goal.returns-in_default-clause-file
returns-in_default-clause-file c = no_name c.args.row.now c.in_default.ensures.bytes

pub returns-in_default-next_bytes-clause-file : goal.returns-in_default-next_bytes-clause-file
returns-in_default-next_bytes-clause-file c = no_bytes c.args.row.now c.in-Some.name.now c.in-Some.rest.now c.in-Some.ensures.bytes c.in_default-next_bytes.ensures.bytes

pub returns-clause-file : goal.returns-clause-file
returns-clause-file c = a_file c.args.row.now c.in-Some.name.now c.in-Some.rest.now c.in-Some-next_bytes.bytes.now c.in-Some-next_bytes.after.now c.in-Some.ensures.bytes c.in-Some-next_bytes.ensures.bytes
