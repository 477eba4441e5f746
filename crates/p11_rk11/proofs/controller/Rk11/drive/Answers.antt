use Rattle.std.proofs.Common.{sym, ap, ◌∙◌, is_some}
use Rattle.p11_rk11.specs.State.{contents_of}
use Rattle.p11_rk11.proofs.Parts.{drive_seen, no_drive_seen}
use Rattle.p11_rk11.proofs.controller.Rk11.drive.Goals as goal

pub returns-then-n-lt-DRIVES-clause-contents : goal.returns-then-n-lt-DRIVES-clause-contents
returns-then-n-lt-DRIVES-clause-contents g c =
    rw (← c.self.view_is)
    (c.drive.ensures.contents ∙ ap contents_of (sym (drive_seen _ _ _ _ _ c.if-n-lt-DRIVES.true c.self.invariant.0 c.at.ensures)))

pub returns-then-n-lt-DRIVES-clause-mounted : goal.returns-then-n-lt-DRIVES-clause-mounted
returns-then-n-lt-DRIVES-clause-mounted g c =
    rw (← c.self.view_is)
    (c.drive.ensures.mounted ∙ ap (λ drive. is_some drive) (sym (drive_seen _ _ _ _ _ c.if-n-lt-DRIVES.true c.self.invariant.0 c.at.ensures)))

pub returns-else-n-lt-DRIVES-clause-contents : goal.returns-else-n-lt-DRIVES-clause-contents
returns-else-n-lt-DRIVES-clause-contents g c = ap contents_of (sym (no_drive_seen c.args.self.now.state c.args.n c.if-n-lt-DRIVES.false))

pub returns-else-n-lt-DRIVES-clause-mounted : goal.returns-else-n-lt-DRIVES-clause-mounted
returns-else-n-lt-DRIVES-clause-mounted g c = ap (λ drive. is_some drive) (sym (no_drive_seen c.args.self.now.state c.args.n c.if-n-lt-DRIVES.false))
