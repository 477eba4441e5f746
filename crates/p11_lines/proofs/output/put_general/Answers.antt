use Rattle.std.proofs.Common.{refl}
use Rattle.p11_lines.proofs.Pieces.{puts_then, puts_cut}
use Rattle.p11_lines.proofs.output.put_general.Goals as goal

pub returns-in_err-put : goal.returns-in_err-put
returns-in_err-put g c = puts_cut c.from_residual.ensures.0 c.in_err-put.ensures _ refl

pub returns-in_err-put_spaced : goal.returns-in_err-put_spaced
returns-in_err-put_spaced g c = puts_cut c.from_residual-in_err-put_spaced.ensures.0 (puts_then c.in_ok-put.ensures c.in_err-put_spaced.ensures) _ refl

pub returns : goal.returns
returns g c = let all = puts_then (puts_then c.in_ok-put.ensures c.in_ok-put_spaced.ensures) c.put-2.ensures in all
