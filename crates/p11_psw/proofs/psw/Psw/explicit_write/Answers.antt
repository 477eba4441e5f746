use Rattle.std.proofs.Common.{rules}
use Rattle.p11_psw.specs.Sources.{status_from_write}
use Rattle.p11_psw.proofs.psw.Psw.explicit_write.Goals as goal

pub returns : goal.returns
unfolding status_from_write
returns c = search rules
