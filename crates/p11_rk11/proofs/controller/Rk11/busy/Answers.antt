use Rattle.std.proofs.Common.{rules}
use Rattle.p11_rk11.specs.State.{is_busy}
use Rattle.p11_rk11.proofs.controller.Rk11.busy.Goals as goal

pub returns : goal.returns
unfolding is_busy
returns g c = search rules
