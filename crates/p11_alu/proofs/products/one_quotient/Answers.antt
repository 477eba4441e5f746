use Rattle.p11_alu.proofs.Quotients.{there_is_one, at_most_one}
use Rattle.p11_alu.proofs.products.one_quotient.Goals as goal

pub returns : goal.returns
returns c = record { there_is_one = there_is_one; at_most_one = at_most_one }
