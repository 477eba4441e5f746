use Rattle.std.proofs.Common.{List, Option, length, ap}
use Rattle.p11_rk11.specs.Kept.View.{MountedState}
use Rattle.p11_rk11.specs.declared.registers.Registers.{Registers}
use Rattle.p11_rk11.specs.Registers.{cleared_registers}
use Rattle.p11_rk11.proofs.Closing.{kept_idle}
use Rattle.p11_rk11.proofs.controller.Rk11.new.Goals as goal

pub invariant_of-result : goal.invariant_of-result
unfolding cleared_registers
invariant_of-result g c =
    kept_idle c.cleared.result c.new.result (ap (λ (r : Registers). r.transfer) c.cleared.ensures) (ap (λ (l : List (Option MountedState)). length l) c.new.ensures)
