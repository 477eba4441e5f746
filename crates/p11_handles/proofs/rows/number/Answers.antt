use Rattle.std.proofs.Common.{arith}
use Rattle.p11_handles.proofs.RowLemmas.{number_back}
use Rattle.p11_handles.proofs.rows.number.Goals as goal

pub returns-clause-value : goal.returns-clause-value
returns-clause-value c =
    number_back c.args.bytes.now _ c.requires (λ k. grind (arith, c.type_inv.bytes k))
    (omega (arith, c.from.ensures, c.from-2.ensures, c.from-3.ensures, c.from-4.ensures))
