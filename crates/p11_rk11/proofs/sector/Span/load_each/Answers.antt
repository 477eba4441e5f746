use Rattle.std.proofs.Common.{arith}
use Rattle.p11_rk11.proofs.Words.{held_at, loaded_none, loaded_more}
use Rattle.p11_rk11.proofs.sector.Span.load_each.Goals as goal

pub loop-k-init : goal.loop-k-init
loop-k-init g c = loaded_none _ _

pub load-requires : goal.load-requires
load-requires g c = rw c.of_word.ensures (held_at _ _ _ c.loop-k.k c.requires.held c.loop-k-test.true)

pub loop-k-preserved : goal.loop-k-preserved
loop-k-preserved g c =
    loaded_more _ _ c.loop-k.k _ _ _ (omega (arith, c.loop-k-test.true, c.requires.count)) c.of_word.ensures c.load.ensures c.loop-k.invariant
