use Rattle.p11_rk11.proofs.Words.{words_read}
use Rattle.p11_rk11.proofs.sector.words_of.Goals as goal

pub returns : goal.returns
returns c = words_read c.args.bytes.now _ c.read_u16_into.auto.dst c.read_u16_into.ensures
