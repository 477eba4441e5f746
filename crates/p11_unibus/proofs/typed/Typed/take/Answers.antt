use Rattle.std.proofs.Common.{rules}
use Rattle.p11_unibus.proofs.typed.Typed.take.Goals as goal

pub returns-clause-none : goal.returns-clause-none
returns-clause-none g c = search rules
