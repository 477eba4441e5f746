use Rattle.p11_alu.proofs.Quotients.{stored_quotient}
use Rattle.p11_alu.proofs.products.div.Goals as goal

pub returns-clause-relation : goal.returns-clause-relation
returns-clause-relation c = λ q r. stored_quotient _ _ q r _ c.divided_by.ensures
