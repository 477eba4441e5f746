use Rattle.std.proofs.Common.{rules}
use Rattle.p11_psw.specs.Sources.{status_from_vector}
use Rattle.p11_psw.proofs.psw.Psw.from_vector.Goals as goal

pub returns : goal.returns
unfolding status_from_vector
returns c = search rules
