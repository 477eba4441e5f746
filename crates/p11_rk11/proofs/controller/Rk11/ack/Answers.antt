use Rattle.std.proofs.Common.{ap}
use Rattle.p11_rk11.specs.declared.registers.Registers.{Registers}
use Rattle.p11_rk11.proofs.Closing.{kept_registers}
use Rattle.p11_rk11.proofs.controller.Rk11.ack.Goals as goal

pub invariant_of-self : goal.invariant_of-self
invariant_of-self g c =
    kept_registers c.self.inside.registers _ _ (ap (λ (r : Registers). r.transfer) c.drop_request.ensures) (ap (λ (r : Registers). r.disk_address) c.drop_request.ensures) c.self.invariant
