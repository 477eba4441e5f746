use Rattle.p11_overlay.proofs.Keeping.{length_changed, whole_kept}
use Rattle.p11_overlay.proofs.drive.Drive.changed.Goals as goal

pub returns-clause-len : goal.returns-clause-len
returns-clause-len g c = rw c.as_slice.ensures.value (length_changed _ (whole_kept _ _ _ c.self.inside.is_protected _ _ c.self.invariant))

pub returns-clause-whole : goal.returns-clause-whole
returns-clause-whole g c = rw (← c.self.view_is) (whole_kept _ _ _ c.self.inside.is_protected _ _ c.self.invariant)
