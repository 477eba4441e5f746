use Rattle.std.proofs.Common.{refl, arith}
use Rattle.p11_memory.specs.Memory.{all_stored}
use Rattle.p11_rk11.proofs.Words.{held_at, all_stored_held, stored_more}
use Rattle.p11_rk11.proofs.sector.Span.store_each.Goals as goal

pub loop-k-init : goal.loop-k-init
unfolding all_stored
loop-k-init g c = record { words = refl; room = omega arith }

pub store-requires-clause-held : goal.store-requires-clause-held
store-requires-clause-held g c =
    rw (c.loop-k.invariant.words, c.of_word.ensures)
    (all_stored_held _ _ c.loop-k.k _ _ (held_at _ _ _ c.loop-k.k c.requires.held c.loop-k-test.true))

pub loop-k-preserved : goal.loop-k-preserved
loop-k-preserved g c =
    record {
      words = stored_more _ _ c.loop-k.k _ _ _ _ _ c.of_word.ensures refl c.loop-k.invariant.words c.store.ensures.words;
      room = omega (arith, c.store.ensures.room, c.loop-k.invariant.room);
    }
