use Rattle.std.proofs.Common.{◌≡◌, take}
use Rattle.p11_handles.specs.Rows.{row_of}
use Rattle.p11_handles.proofs.rows.write_row.Given as goal

abbrev pub invariant-loop-file : goal.invariant-loop-file
invariant-loop-file l = l.row.items ≡ row_of (take l.file-index l.files)
