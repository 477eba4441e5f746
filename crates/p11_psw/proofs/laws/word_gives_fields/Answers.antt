use Rattle.p11_psw.proofs.Words.{status_of-status_word}
use Rattle.p11_psw.proofs.laws.word_gives_fields.Goals as goal

pub returns : goal.returns
returns c = status_of-status_word
