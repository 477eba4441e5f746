use Rattle.std.proofs.Common.{rules}
use Rattle.p11_dl11.specs.ReceiverEvents.{receiver_after_init}
use Rattle.p11_dl11.proofs.receiver.Receiver.init.Goals as goal

pub returns : goal.returns
unfolding receiver_after_init
returns g c = search rules
