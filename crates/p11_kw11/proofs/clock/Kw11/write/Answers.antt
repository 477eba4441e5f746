use Rattle.std.proofs.Common.{rules}
use Rattle.p11_kw11.specs.LineClock.{clock_after_write}
use Rattle.p11_kw11.proofs.clock.Kw11.write.Goals as goal

pub returns : goal.returns
unfolding clock_after_write
returns c = search rules
