use Rattle.std.proofs.Common.{rules}
use Rattle.p11_dl11.proofs.receiver.Receiver.read_character.Goals as goal

pub returns : goal.returns
returns g c = search rules
