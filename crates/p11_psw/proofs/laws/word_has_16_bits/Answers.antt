use Rattle.p11_psw.proofs.Words.{status_word-below, without_unused-status_word}
use Rattle.p11_psw.proofs.laws.word_has_16_bits.Goals as goal

pub returns-clause-fits : goal.returns-clause-fits
returns-clause-fits c = status_word-below

pub returns-clause-unused : goal.returns-clause-unused
returns-clause-unused c = without_unused-status_word
