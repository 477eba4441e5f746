use Rattle.std.proofs.Common.{ap}
use Rattle.p11_rk11.specs.declared.registers.Registers.{Registers}
use Rattle.p11_rk11.specs.Registers.{ended, failed, requested}
use Rattle.p11_rk11.proofs.Closing.{kept_idle}
use Rattle.p11_rk11.proofs.controller.Rk11.start.Goals as goal

pub invariant_of-self : goal.invariant_of-self
unfolding failed ended requested
invariant_of-self g c = kept_idle _ _ (ap (λ (r : Registers). r.transfer) c.fail.ensures) c.self.invariant.0
