use Rattle.std.proofs.Common.{◌∙◌}
use Rattle.p11_panel.proofs.RangeLemmas.{all_answer_at, all_answer_kept, deposited_more}
use Rattle.p11_panel.proofs.panel.Panel.deposit_all.Goals as goal

pub deposit_at-requires : goal.deposit_at-requires
deposit_at-requires g c = all_answer_at _ _ _ _ c.loop-number-test.true c.loop-number.invariant.answer

pub loop-number-preserved : goal.loop-number-preserved
loop-number-preserved g c =
    record {
      done = c.deposit_at.ensures.state ∙ deposited_more _ _ _ _ _ _ c.loop-number-test.true c.loop-number.invariant.done;
      answer = all_answer_kept _ _ _ _ c.deposit_at.ensures.answers ∙ c.loop-number.invariant.answer;
    }
