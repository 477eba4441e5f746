use Rattle.p11_kt11.proofs.Keeping.{keeps_the_reach}
use Rattle.p11_kt11.proofs.laws.user_translation_keeps_the_reach.Goals as goal

pub returns : goal.returns
returns c = keeps_the_reach
