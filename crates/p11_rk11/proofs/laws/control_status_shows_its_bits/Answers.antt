use Rattle.p11_rk11.proofs.ControlWord.{shows_its_bits}
use Rattle.p11_rk11.proofs.laws.control_status_shows_its_bits.Goals as goal

pub returns : goal.returns
returns c = shows_its_bits
