use Rattle.std.proofs.Common.{rules}
use Rattle.p11_kw11.specs.LineClock.{clock_word}
use Rattle.p11_kw11.proofs.clock.Kw11.read.Goals as goal

pub returns : goal.returns
unfolding clock_word
returns c = search rules
