use Rattle.std.proofs.Common.{sym, ap, ◌∙◌}
use Rattle.p11_rk11.specs.State.{seek_due}
use Rattle.p11_rk11.proofs.Parts.{drive_seen, no_drive_seen}
use Rattle.p11_rk11.proofs.controller.Rk11.seek_due.Goals as goal

pub returns-then-n-lt-DRIVES : goal.returns-then-n-lt-DRIVES
returns-then-n-lt-DRIVES g c =
    rw (← c.self.view_is)
    (c.seek_due.ensures ∙ ap seek_due (sym (drive_seen _ _ _ _ _ c.if-n-lt-DRIVES.true c.self.invariant.0 c.at.ensures)))

pub returns-else-n-lt-DRIVES : goal.returns-else-n-lt-DRIVES
unfolding seek_due
returns-else-n-lt-DRIVES g c = ap seek_due (sym (no_drive_seen c.args.self.now.state c.args.n c.if-n-lt-DRIVES.false))
