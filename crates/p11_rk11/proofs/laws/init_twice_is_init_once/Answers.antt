use Rattle.p11_rk11.proofs.Init.{init_twice}
use Rattle.p11_rk11.proofs.laws.init_twice_is_init_once.Goals as goal

pub returns : goal.returns
returns c = init_twice
