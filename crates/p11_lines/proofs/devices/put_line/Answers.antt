use Rattle.p11_lines.proofs.Pieces.{puts_then, puts_front, puts_failed}
use Rattle.p11_lines.proofs.devices.put_line.Goals as goal

pub returns-in_err-put_line_words : goal.returns-in_err-put_line_words
returns-in_err-put_line_words g c = puts_failed c.from_residual.ensures.0 (puts_front _ c.in_err-put_line_words.ensures)

pub returns : goal.returns
returns g c = puts_then c.in_ok-put_line_words.ensures c.put_line_waits.ensures
