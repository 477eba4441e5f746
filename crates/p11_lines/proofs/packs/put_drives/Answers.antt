use Rattle.p11_lines.proofs.Pieces.{piece_put, piece_broken, pieces_put, drives_text_drop, drives_text_past}
use Rattle.p11_lines.proofs.packs.put_drives.Goals as goal

pub returns-in_err-put_drive : goal.returns-in_err-put_drive
returns-in_err-put_drive g c =
    piece_broken _ c.from_residual.ensures.0 c.loop-number.invariant (drives_text_drop c.args.drives.now c.loop-number.number _ c.loop-number-test.true) c.in_err-put_drive.ensures

pub loop-number-preserved : goal.loop-number-preserved
loop-number-preserved g c =
    piece_put _ c.loop-number.invariant (drives_text_drop c.args.drives.now c.loop-number.number _ c.loop-number-test.true) c.in_ok-put_drive.ensures

pub returns : goal.returns
returns g c = pieces_put c.loop-number.invariant (drives_text_past _ _ _ c.loop-number-test.false)
