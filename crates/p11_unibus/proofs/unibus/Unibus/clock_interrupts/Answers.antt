use Rattle.std.proofs.Common.{◌∙◌, sym}
use Rattle.p11_unibus.proofs.Ticks.{granted_at_once}
use Rattle.p11_unibus.proofs.unibus.Unibus.clock_interrupts.Goals as goal

pub returns-clause-granted : goal.returns-clause-granted
returns-clause-granted g c =
    λ same. granted_at_once _ _ _ _ (sym c.ticks_through.ensures ∙ c.if-not-ticks_through.false) c.tick_and_acknowledge.ensures.state
