use Rattle.std.proofs.Common.{arith}
use Rattle.std.proofs.lemmas.Bool.Decides.{nat_tests}
use Rattle.p11_lines.proofs.Pieces.{puts_all, puts_cut, puts_none, puts_then, typed_text-none, typed_text-some}
use Rattle.p11_lines.proofs.run.put_typed.Goals as goal

pub returns-then-is_empty : goal.returns-then-is_empty
returns-then-is_empty g c = puts_none (typed_text-none c.args.typed.now (grind (arith, nat_tests)))

pub returns-in_err-put : goal.returns-in_err-put
returns-in_err-put g c = puts_cut c.from_residual.ensures.0 c.in_err-put.ensures _ (typed_text-some c.args.typed.now (grind (arith, nat_tests)))

pub returns : goal.returns
returns g c = puts_all (puts_then c.in_ok-put.ensures c.put_escaped_line.ensures) (typed_text-some c.args.typed.now (grind (arith, nat_tests)))
