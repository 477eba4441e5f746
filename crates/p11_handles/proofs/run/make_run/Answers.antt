use Rattle.std.proofs.Common.{true, false}
use Rattle.p11_handles.proofs.RunLemmas.{run_ends}
use Rattle.p11_handles.proofs.run.make_run.Goals as goal

pub returns-then-until_idle : goal.returns-then-until_idle
returns-then-until_idle c = rw c.if-until_idle.true (run_ends true c.args.turns c.args.panel.now c.act.result c.act.new.self c.act.ensures.acts)

pub returns-else-until_idle : goal.returns-else-until_idle
returns-else-until_idle c = rw c.if-until_idle.false (run_ends false c.args.turns c.args.panel.now c.act-else-until_idle.result c.act-else-until_idle.new.self c.act-else-until_idle.ensures.acts)
