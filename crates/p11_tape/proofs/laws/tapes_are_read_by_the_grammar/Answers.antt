use Rattle.p11_tape.proofs.LawLemmas.{read_means, means_read}
use Rattle.p11_tape.proofs.laws.tapes_are_read_by_the_grammar.Goals as goal

pub returns-clause-read : goal.returns-clause-read
returns-clause-read c = read_means

pub returns-clause-means : goal.returns-clause-means
returns-clause-means c = means_read
