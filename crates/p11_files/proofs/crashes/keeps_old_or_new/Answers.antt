use Rattle.p11_files.proofs.CrashLemmas.{filled_keeps, unfilled_keeps}
use Rattle.p11_files.proofs.crashes.keeps_old_or_new.Goals as goal

pub returns-clause-filled : goal.returns-clause-filled
returns-clause-filled g = filled_keeps

pub returns-clause-failed : goal.returns-clause-failed
returns-clause-failed g = unfilled_keeps
