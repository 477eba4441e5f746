use Rattle.p11_lines.proofs.Pieces.{puts_then, puts_front, puts_failed}
use Rattle.p11_lines.proofs.output.put_registers.Goals as goal

pub returns-in_err-put_general : goal.returns-in_err-put_general
returns-in_err-put_general g c = puts_failed c.from_residual.ensures.0 (puts_front _ (puts_front _ c.in_err-put_general.ensures))

pub returns-in_err-put_pointers : goal.returns-in_err-put_pointers
returns-in_err-put_pointers g c = puts_failed c.from_residual-in_err-put_pointers.ensures.0 (puts_front _ (puts_then c.in_ok-put_general.ensures c.in_err-put_pointers.ensures))

pub returns : goal.returns
returns g c = puts_then (puts_then c.in_ok-put_general.ensures c.in_ok-put_pointers.ensures) c.put_turns.ensures
