use Rattle.p11_rk11.proofs.Turns.{nothing_before_due}
use Rattle.p11_rk11.proofs.laws.nothing_happens_before_due.Goals as goal

pub returns : goal.returns
returns c = nothing_before_due
