use Rattle.p11_records.proofs.RunLemmas.{two_are_one}
use Rattle.p11_records.proofs.laws.two_steps_are_one.Goals as goal

pub returns : goal.returns
returns c = two_are_one
