use Rattle.std.proofs.Common.{refl}
use Rattle.p11_lines.proofs.Pieces.{puts_cut, puts_failed, puts_front, puts_then}
use Rattle.p11_lines.proofs.packs.put_sectors.Goals as goal

pub returns-in_err-put_numbered : goal.returns-in_err-put_numbered
returns-in_err-put_numbered g c = puts_cut c.from_residual.ensures.0 c.in_err-put_numbered.ensures _ refl

pub returns-in_err-put_numbers : goal.returns-in_err-put_numbers
returns-in_err-put_numbers g c =
    let front = puts_then c.in_ok-put_numbered.ensures (puts_front _ c.in_err-put_numbers.ensures) in
    puts_failed c.from_residual-in_err-put_numbers.ensures.0 front

pub returns : goal.returns
returns g c = let all = puts_then c.in_ok-put_numbered.ensures (puts_then c.in_ok-put_numbers.ensures c.put.ensures) in all
