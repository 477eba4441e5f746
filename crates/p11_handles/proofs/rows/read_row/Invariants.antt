use Rattle.std.proofs.Common.{◌≡◌, ◌++◌, length, All}
use Rattle.p11_handles.specs.Rows.{row_of, Fits}
use Rattle.p11_handles.proofs.rows.read_row.Given as goal

abbrev pub invariant-loop-rest : goal.invariant-loop-rest
invariant-loop-rest l = record {
  read : l.row ≡ row_of l.files.items ++ l.rest;
  fit : All Fits l.files.items;
}

abbrev pub decreases-loop-rest : goal.decreases-loop-rest
decreases-loop-rest l = length l.rest
