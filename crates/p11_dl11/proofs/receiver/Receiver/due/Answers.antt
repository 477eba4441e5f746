use Rattle.std.proofs.Common.{rules}
use Rattle.p11_dl11.specs.ReceiverEvents.{receiver_due}
use Rattle.p11_dl11.proofs.receiver.Receiver.due.Goals as goal

pub returns : goal.returns
unfolding receiver_due
returns g c = search rules
