use Rattle.std.proofs.Common.{◌≡◌, ◌+◌, ◌∙◌, List, ℕ, sym, subst, arith}
use Rattle.p11_panel.proofs.RangeLemmas.{all_answer_at, all_answer_kept, reads_more}
use Rattle.p11_panel.specs.Ranges.{reads_at}
use Rattle.p11_panel.proofs.panel.Panel.words_at.Goals as goal

pub word_at-word-requires : goal.word_at-word-requires
word_at-word-requires g c = all_answer_at _ _ _ _ c.loop-number-test.true c.loop-number.invariant.answer

pub loop-number-preserved : goal.loop-number-preserved
loop-number-preserved g c =
    let read = reads_more c.args.address c.loop-number.number c.word_at-word.result c.loop-number.words.items c.args.self.now c.loop-number.self c.word_at-word.new.self c.loop-number.invariant.done c.word_at-word.ensures.state in
    record {
      done = subst (λ (t : List ℕ). reads_at c.args.address (c.loop-number.number + 1) c.args.self.now ≡ (c.word_at-word.new.self, t)) (sym c.push_within.ensures.items) read;
      answer = all_answer_kept _ _ _ _ c.word_at-word.ensures.answers ∙ c.loop-number.invariant.answer;
      size = omega (arith, c.push_within.ensures.len, c.loop-number.invariant.size);
      room = omega (arith, c.loop-number.invariant.room, c.push_within.ensures.room);
    }
