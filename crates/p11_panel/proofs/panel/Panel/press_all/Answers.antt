use Rattle.p11_panel.proofs.RangeLemmas.{pressed_more}
use Rattle.p11_panel.proofs.panel.Panel.press_all.Goals as goal

pub loop-key-preserved : goal.loop-key-preserved
loop-key-preserved g c = pressed_more _ _ 0 _ _ _ c.loop-key-test.true c.loop-key.invariant c.press.ensures
