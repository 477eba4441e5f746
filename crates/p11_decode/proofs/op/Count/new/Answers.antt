use Rattle.std.proofs.Common.{rules}
use Rattle.p11_decode.proofs.op.Count.new.Goals as goal

pub returns : goal.returns
returns c = search rules
