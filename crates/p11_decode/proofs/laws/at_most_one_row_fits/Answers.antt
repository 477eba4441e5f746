use Rattle.p11_decode.proofs.Rows.{at_most_one_row}
use Rattle.p11_decode.proofs.laws.at_most_one_row_fits.Goals as goal

pub returns : goal.returns
returns c = at_most_one_row c.args.word
