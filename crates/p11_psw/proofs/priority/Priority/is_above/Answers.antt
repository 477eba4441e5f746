use Rattle.std.proofs.Common.{rules}
use Rattle.p11_psw.proofs.priority.Priority.is_above.Goals as goal

pub returns : goal.returns
returns c = search rules
