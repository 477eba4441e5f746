use Rattle.p11_rk11.proofs.Places.{words_again}
use Rattle.p11_rk11.proofs.laws.words_of_a_written_sector.Goals as goal

pub returns : goal.returns
returns c = words_again
