use Rattle.std.proofs.Common.{refl}
use Rattle.p11_run.proofs.Sessions.{fault_is, not_ok, same_err}
use Rattle.p11_run.proofs.playing.play_script.Goals as goal

pub returns-in-Ok-clause-ok : goal.returns-in-Ok-clause-ok
returns-in-Ok-clause-ok g c = let h = c.in-Ok.ensures.ok in (h.0, h.1, _, h.2, h.3, h.4, h.5)

pub returns-in-Err-clause-fault : goal.returns-in-Err-clause-fault
returns-in-Err-clause-fault g c = (c.in-Err.fault, refl)

pub returns-in-Err-clause-reading : goal.returns-in-Err-clause-reading
returns-in-Err-clause-reading g c h = c.in-Err.ensures.reading (same_err _ _ (fault_is c.in-Err.fault _ h))

pub returns-in-Err-clause-long : goal.returns-in-Err-clause-long
returns-in-Err-clause-long g c h = c.in-Err.ensures.long (same_err _ _ (fault_is c.in-Err.fault _ h))

pub returns-in-Err-clause-broke : goal.returns-in-Err-clause-broke
returns-in-Err-clause-broke g c h = c.in-Err.ensures.broke (same_err _ _ (fault_is c.in-Err.fault _ h))

pub returns-in-Ok-clause-fault : goal.returns-in-Ok-clause-fault
returns-in-Ok-clause-fault g c = tt

pub returns-in-Ok-clause-reading : goal.returns-in-Ok-clause-reading
returns-in-Ok-clause-reading g c h = absurd (not_ok _ _ h)

pub returns-in-Ok-clause-long : goal.returns-in-Ok-clause-long
returns-in-Ok-clause-long g c h = absurd (not_ok _ _ h)

pub returns-in-Ok-clause-broke : goal.returns-in-Ok-clause-broke
returns-in-Ok-clause-broke g c h = absurd (not_ok _ _ h)
