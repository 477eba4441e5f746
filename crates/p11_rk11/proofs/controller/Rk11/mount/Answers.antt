use Rattle.std.proofs.Common.{ap, ◌∙◌, Some, set}
use Rattle.p11_rk11.specs.State.{disk_after_mount, with_drive}
use Rattle.p11_rk11.proofs.controller.Rk11.mount.Goals as goal

pub returns-clause-state : goal.returns-clause-state
unfolding disk_after_mount with_drive
returns-clause-state g c =
    c.put.ensures.state ∙ ap (λ drive. with_drive c.args.self.now.state c.args.n (Some drive)) c.new.ensures.visible

pub returns-clause-prepared : goal.returns-clause-prepared
returns-clause-prepared g c =
    c.put.ensures.prepared ∙ ap (λ sectors. set c.args.self.now.prepared c.args.n sectors) c.new.ensures.prepared
