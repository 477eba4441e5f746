use Rattle.std.proofs.Common.{refl}
use Rattle.p11_lines.proofs.Pieces.{puts_then, puts_cut}
use Rattle.p11_lines.proofs.packs.put_mounted.Goals as goal

pub returns-in_err-put_numbered : goal.returns-in_err-put_numbered
returns-in_err-put_numbered g c = puts_cut c.from_residual.ensures.0 c.in_err-put_numbered.ensures _ refl

pub returns : goal.returns
returns g c = let all = puts_then c.in_ok-put_numbered.ensures c.put_pack.ensures in all
