use Rattle.std.proofs.Common.{rules}
use Rattle.p11_tape.proofs.bytes.TapeBytes.from_vec.Goals as goal

pub returns : goal.returns
returns g c = search rules
