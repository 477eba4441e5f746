use Rattle.p11_lines.proofs.Pieces.{puts_then, puts_front, puts_failed}
use Rattle.p11_lines.proofs.run.put_run.Goals as goal

pub returns-in_err-put_typed : goal.returns-in_err-put_typed
returns-in_err-put_typed g c = puts_failed c.from_residual.ensures.0 (puts_front _ c.in_err-put_typed.ensures)

pub returns : goal.returns
returns g c = puts_then c.in_ok-put_typed.ensures c.put_stop.ensures
