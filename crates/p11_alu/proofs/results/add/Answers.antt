use Rattle.std.proofs.Common.{rules}
use Rattle.p11_alu.specs.Results.{sum_of}
use Rattle.p11_alu.proofs.results.add.Goals as goal

pub returns : goal.returns
unfolding sum_of
returns c = search rules
