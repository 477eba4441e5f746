use Rattle.p11_tape.proofs.WriterLemmas.{written_read}
use Rattle.p11_tape.proofs.laws.written_tape.Goals as goal

pub returns : goal.returns
returns c = written_read
