use Rattle.p11_lines.proofs.Pieces.{puts_then, puts_front, puts_failed}
use Rattle.p11_lines.proofs.run.put_escaped_line.Goals as goal

pub returns-in_err-put_escaped : goal.returns-in_err-put_escaped
returns-in_err-put_escaped g c = puts_failed c.from_residual.ensures.0 (puts_front _ c.in_err-put_escaped.ensures)

pub returns : goal.returns
returns g c = puts_then c.in_ok-put_escaped.ensures c.put.ensures
