use Rattle.p11_tape.proofs.WriterLemmas.{written_read_with_last}
use Rattle.p11_tape.proofs.laws.written_tape_with_last_block.Goals as goal

pub returns : goal.returns
returns c = written_read_with_last
