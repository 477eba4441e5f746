use Rattle.std.proofs.Common.{rules}
use Rattle.p11_alu.specs.Results.{sum_of}
use Rattle.p11_alu.proofs.results.inc.Goals as goal

pub returns-clause-value : goal.returns-clause-value
unfolding sum_of
returns-clause-value c = search rules
