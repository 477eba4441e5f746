use Rattle.std.proofs.Common.{refl, ap, ◌∙◌, add-one}
use Rattle.p11_rk11.specs.Acts.{disk_after_seek, disk_after_seeks}
use Rattle.p11_rk11.proofs.controller.Rk11.finish_seeks.Goals as goal

pub loop-n-init : goal.loop-n-init
unfolding disk_after_seeks
loop-n-init g c = refl

pub loop-n-preserved : goal.loop-n-preserved
unfolding disk_after_seeks
loop-n-preserved g c =
    rw (add-one c.loop-n.n) (c.finish_seek.ensures ∙ ap (λ s. disk_after_seek c.args.turn c.loop-n.n s) c.loop-n.invariant)
