use Rattle.std.proofs.Common.{ap}
use Rattle.p11_rk11.specs.declared.registers.Registers.{Registers}
use Rattle.p11_rk11.specs.Registers.{cleared_registers}
use Rattle.p11_rk11.proofs.Closing.{kept_idle, kept_registers}
use Rattle.p11_rk11.proofs.controller.Rk11.go.Goals as goal

pub invariant_of-self : goal.invariant_of-self
unfolding cleared_registers
invariant_of-self g c = kept_idle _ _ (ap (λ (r : Registers). r.transfer) c.cleared-self-inside.ensures) c.self.invariant.0

pub invariant_of-self-else-is_reset : goal.invariant_of-self-else-is_reset
invariant_of-self-else-is_reset g c =
    kept_registers c.self.inside.registers _ _ (ap (λ (r : Registers). r.transfer) c.clear_at_go.ensures) (ap (λ (r : Registers). r.disk_address) c.clear_at_go.ensures) c.self.invariant
