use Rattle.std.proofs.Common.{arith, ◌∙◌}
use Rattle.p11_overlay.proofs.Sectors.{sectors_made, sectors_more}
use Rattle.p11_overlay.proofs.drive.sectors_with_bytes.Goals as goal

pub loop-n-preserved : goal.loop-n-preserved
loop-n-preserved g c =
    c.in_ok-push.ensures.items ∙ sectors_more c.args.image.now c.loop-n.n _ c.sector_at.result c.loop-n.invariant c.sector_at.ensures

pub returns : goal.returns
returns g c =
    sectors_made c.args.image.now c.loop-n.n _ _ (omega arith) c.div_ceil-count.ensures c.requires c.loop-n.invariant
