use Rattle.p11_tape.proofs.WriterLemmas.{read_whatever_follows}
use Rattle.p11_tape.proofs.laws.after_the_last_block.Goals as goal

pub returns : goal.returns
returns c = read_whatever_follows
