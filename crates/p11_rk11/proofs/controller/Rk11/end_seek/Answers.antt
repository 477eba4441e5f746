use Rattle.p11_rk11.specs.Acts.{disk_after_seek, after_seek_on}
use Rattle.p11_rk11.proofs.Parts.{part_changed, put_back}
use Rattle.p11_rk11.proofs.Closing.{kept_after_seek}
use Rattle.p11_rk11.proofs.controller.Rk11.end_seek.Goals as goal

pub returns : goal.returns
unfolding disk_after_seek
returns g c =
    rw (← c.self.view_is, put_back _ _ _ _ _ c.take-drive.ensures.rest c.put.ensures)
    (part_changed _ _ _ _ _ _ _ (λ r drive. after_seek_on c.args.turn c.args.n r drive) c.requires c.self.invariant.0 c.take-drive.ensures.taken c.finish_seek.ensures.done)

pub invariant_of-self : goal.invariant_of-self
invariant_of-self g c =
    rw (put_back _ _ _ _ _ c.take-drive.ensures.rest c.put.ensures)
    (kept_after_seek c.args.turn c.args.n c.self.inside.registers c.finish_seek.new.registers c.self.inside.drives _ c.finish_seek.new.bay _ c.requires c.take-drive.ensures.taken c.finish_seek.ensures.done c.self.invariant)
