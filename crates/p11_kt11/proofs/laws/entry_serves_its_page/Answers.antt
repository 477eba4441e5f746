use Rattle.p11_kt11.proofs.Agreeing.{entry_serves}
use Rattle.p11_kt11.proofs.laws.entry_serves_its_page.Goals as goal

pub returns : goal.returns
returns c = entry_serves
