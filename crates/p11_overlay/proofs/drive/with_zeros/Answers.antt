use Rattle.std.proofs.Common.{refl}
use Rattle.p11_overlay.proofs.Sectors.{zeros_behind}
use Rattle.p11_overlay.proofs.drive.with_zeros.Goals as goal

pub returns : goal.returns
returns c = zeros_behind _ c.args.bytes.now _ c.copy_from_slice.ensures.after refl
