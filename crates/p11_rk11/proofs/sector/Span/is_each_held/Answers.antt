use Rattle.std.proofs.Common.{refl, sym, ◌∙◌}
use Rattle.p11_memory.specs.Memory.{all_held}
use Rattle.p11_rk11.proofs.Words.{held_more, not_held}
use Rattle.p11_rk11.proofs.sector.Span.is_each_held.Goals as goal

pub loop-k-init : goal.loop-k-init
unfolding all_held
loop-k-init g c = refl

pub returns-then-not-holds : goal.returns-then-not-holds
returns-then-not-holds g c =
    not_held _ _ _ c.loop-k.k _ c.of_word.ensures c.loop-k-test.true (sym c.holds.ensures ∙ c.if-not-holds.true)

pub loop-k-preserved : goal.loop-k-preserved
loop-k-preserved g c =
    held_more _ _ c.loop-k.k _ c.of_word.ensures c.loop-k.invariant (sym c.holds.ensures ∙ c.if-not-holds.false)
