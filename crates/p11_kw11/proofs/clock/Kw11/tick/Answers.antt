use Rattle.std.proofs.Common.{rules}
use Rattle.p11_kw11.specs.LineClock.{clock_after_tick}
use Rattle.p11_kw11.proofs.clock.Kw11.tick.Goals as goal

pub returns : goal.returns
unfolding clock_after_tick
returns c = search rules
