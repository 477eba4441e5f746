use Rattle.p11_decode.proofs.Rows.{decided_by_row, reserved_by_none}
use Rattle.p11_decode.specs.Table.{op_of}
use Rattle.p11_decode.proofs.laws.the_row_that_fits_decides.Goals as goal

pub returns-clause-fitting : goal.returns-clause-fitting
unfolding op_of
returns-clause-fitting c = decided_by_row c.args.word

pub returns-clause-reserved : goal.returns-clause-reserved
unfolding op_of
returns-clause-reserved c = reserved_by_none c.args.word
