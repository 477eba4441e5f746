use Rattle.std.proofs.Common.{arith}
use Rattle.p11_files.proofs.FillLemmas.{more_wrote}
use Rattle.p11_files.proofs.filling.write_whole.Goals as goal

pub loop-rest-preserved : goal.loop-rest-preserved
loop-rest-preserved g c =
    more_wrote (g.D.Disk.state c.args.disk.now) (g.D.Disk.state c.loop-rest.disk) (g.D.Disk.state c.write.new.self) c.args.bytes.now c.loop-rest.rest.now _ _ c.loop-rest.invariant c.in_ok-count.ensures.calls (omega (arith, c.in_ok-count.ensures.bound))
