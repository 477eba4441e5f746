use Rattle.p11_rk11.proofs.Kept.{memory_stays}
use Rattle.p11_rk11.proofs.laws.memory_stays.Goals as goal

pub returns : goal.returns
returns c = memory_stays
