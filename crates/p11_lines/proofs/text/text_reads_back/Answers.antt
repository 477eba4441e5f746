use Rattle.p11_lines.proofs.ReadBack.{line_from-line_text}
use Rattle.p11_lines.proofs.text.text_reads_back.Goals as goal

pub returns : goal.returns
returns g c = line_from-line_text c.args.line.now
