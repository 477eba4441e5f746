use Rattle.p11_psw.proofs.Words.{status_word-status_of}
use Rattle.p11_psw.proofs.laws.fields_stand_in_word.Goals as goal

pub returns : goal.returns
returns c = status_word-status_of
