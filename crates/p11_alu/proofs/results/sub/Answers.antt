use Rattle.std.proofs.Common.{rules}
use Rattle.p11_alu.specs.Results.{difference_of}
use Rattle.p11_alu.proofs.results.sub.Goals as goal

pub returns : goal.returns
unfolding difference_of
returns c = search rules
