use Rattle.std.proofs.Common.{sym, ap, ◌∙◌}
use Rattle.p11_rk11.specs.State.{status_of}
use Rattle.p11_rk11.specs.Kept.View.{visible_drive}
use Rattle.p11_rk11.proofs.Parts.{selected_seen}
use Rattle.p11_rk11.proofs.controller.Rk11.selected_status.Goals as goal

pub returns-clause-value : goal.returns-clause-value
returns-clause-value g c =
    rw (← c.self.view_is)
    (c.status.ensures.value
    ∙ ap (λ sector. status_of c.args.turn sector (visible_drive c.at.result.now)) c.sector.ensures
    ∙ ap (λ drive. status_of c.args.turn c.self.inside.registers.disk_address.sector drive)
    (sym (selected_seen c.self.inside.registers c.self.inside.drives _ _ _ c.drive-n.ensures.value c.drive-n.ensures.bound c.self.invariant.0 c.at.ensures)))
