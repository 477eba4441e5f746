use Rattle.p11_kt11.proofs.Agreeing.{serves_the_translation}
use Rattle.p11_kt11.proofs.laws.entries_serve_the_translation.Goals as goal

pub returns : goal.returns
returns c = serves_the_translation
