use Rattle.std.proofs.Common.{rules}
use Rattle.p11_dl11.proofs.receiver.Receiver.room.Goals as goal

pub returns-clause-room : goal.returns-clause-room
returns-clause-room g c = search rules

pub returns-clause-most : goal.returns-clause-most
returns-clause-most g c = search rules
