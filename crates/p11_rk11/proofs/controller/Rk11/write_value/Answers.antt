use Rattle.std.proofs.Common.{ap, sym, ◌∙◌}
use Rattle.p11_rk11.specs.declared.registers.Registers.{Registers}
use Rattle.p11_rk11.proofs.Closing.{kept_idle}
use Rattle.p11_rk11.proofs.Reachable.{none_of, value_kept}
use Rattle.p11_rk11.proofs.controller.Rk11.write_value.Goals as goal

pub invariant_of-self : goal.invariant_of-self
invariant_of-self g c =
    kept_idle _ _
    (ap (λ (r : Registers). r.transfer) c.set.ensures
    ∙ value_kept c.args.register c.args.word c.self.inside.registers
    ∙ none_of _ (sym c.is_ready.ensures ∙ c.if-is_ready.true))
    c.self.invariant.0
