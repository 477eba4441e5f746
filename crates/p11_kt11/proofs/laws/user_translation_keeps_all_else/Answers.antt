use Rattle.p11_kt11.proofs.Keeping.{user_translation_keeps}
use Rattle.p11_kt11.proofs.laws.user_translation_keeps_all_else.Goals as goal

pub returns : goal.returns
returns c = user_translation_keeps
