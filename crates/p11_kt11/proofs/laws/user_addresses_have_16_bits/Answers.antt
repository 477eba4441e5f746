use Rattle.p11_kt11.proofs.Keeping.{no_place_beyond}
use Rattle.p11_kt11.proofs.laws.user_addresses_have_16_bits.Goals as goal

pub returns : goal.returns
returns c = no_place_beyond
