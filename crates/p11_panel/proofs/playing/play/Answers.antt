use Rattle.p11_panel.proofs.ConfinedRuns.{confined_more, confined_nothing}
use Rattle.p11_panel.proofs.PlayLemmas.{run_nothing, run_more}
use Rattle.p11_panel.proofs.playing.play.Goals as goal

pub loop-command-init : goal.loop-command-init
loop-command-init g c =
    record {
      plays = rw (c.new-answers.ensures.items, c.in_ok-panel.ensures) (run_nothing _ _);
      confined = rw (c.new-answers.ensures.items, c.in_ok-panel.ensures) (confined_nothing _ _);
    }

pub loop-command-preserved : goal.loop-command-preserved
loop-command-preserved g c =
    record {
      plays = run_more _ _ _ _ _ _ _ _ _ c.loop-command-test.true c.command-item.is c.loop-command.invariant.plays c.act-answer.ensures.acts c.in_ok-push.ensures.items;
      confined = confined_more _ _ _ _ _ _ _ _ _ c.loop-command-test.true c.command-item.is c.loop-command.invariant.confined c.act-answer.ensures.acts c.act-answer.ensures.confined c.in_ok-push.ensures.items;
    }
