use Rattle.std.proofs.Common.{ap, sym, ◌∙◌}
use Rattle.p11_rk11.specs.declared.registers.Registers.{Registers}
use Rattle.p11_rk11.specs.Registers.{requested, with_enable, with_control}
use Rattle.p11_rk11.proofs.Closing.{kept_idle, kept_registers}
use Rattle.p11_rk11.proofs.Reachable.{none_of}
use Rattle.p11_rk11.proofs.controller.Rk11.write_control.Goals as goal

pub invariant_of-self : goal.invariant_of-self
unfolding with_enable
invariant_of-self g c =
    kept_registers c.self.inside.registers _ _ (ap (λ (r : Registers). r.transfer) c.take_enable-rises.ensures.state) (ap (λ (r : Registers). r.disk_address) c.take_enable-rises.ensures.state) c.self.invariant

pub invariant_of-self-then-bit : goal.invariant_of-self-then-bit
unfolding with_control
invariant_of-self-then-bit g c =
    kept_idle _ _ (ap (λ (r : Registers). r.transfer) c.take_control.ensures ∙ none_of _ (sym c.is_ready.ensures ∙ c.if-not-is_ready.false)) c.self.invariant.0

pub invariant_of-self-then-rises : goal.invariant_of-self-then-rises
unfolding with_control requested
invariant_of-self-then-rises g c =
    kept_idle _ _
    (ap (λ (r : Registers). r.transfer) c.raise_request.ensures
    ∙ ap (λ (r : Registers). r.transfer) c.take_control.ensures
    ∙ none_of _ (sym c.is_ready.ensures ∙ c.if-not-is_ready.false))
    c.self.invariant.0

pub invariant_of-self-else-rises : goal.invariant_of-self-else-rises
unfolding with_control
invariant_of-self-else-rises g c =
    kept_idle _ _ (ap (λ (r : Registers). r.transfer) c.take_control.ensures ∙ none_of _ (sym c.is_ready.ensures ∙ c.if-not-is_ready.false)) c.self.invariant.0
