use Rattle.p11_handles.proofs.RowLemmas.{file_put}
use Rattle.p11_handles.proofs.rows.write_row.Goals as goal

pub loop-file-preserved : goal.loop-file-preserved
loop-file-preserved c =
    file_put c.args.files.now c.loop-file.file-index c.file-item.result c.loop-file.row.items c.put_bytes.new.row.items c.put_bytes-in-loop-file.new.row.items c.name.result.now c.bytes.result.now
    c.loop-file-test.true c.file-item.is c.loop-file.invariant c.in_ok-put_bytes.ensures c.in_ok-put_bytes-2.ensures c.name.ensures c.bytes.ensures
