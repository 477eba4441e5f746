use Rattle.std.proofs.Common.{add-one}
use Rattle.p11_rk11.specs.Calls.Due.{due_among}
use Rattle.p11_rk11.proofs.controller.Rk11.due.Goals as goal

pub loop-n-init : goal.loop-n-init
unfolding due_among
loop-n-init g c = c.transfer_due-due.ensures

pub loop-n-preserved : goal.loop-n-preserved
unfolding due_among
loop-n-preserved g c = rw (add-one c.loop-n.n) (rw (← c.loop-n.invariant, ← c.seek_due.ensures) c.earlier-due.ensures)
