use Rattle.std.proofs.Common.{arith}
use Rattle.p11_shown.proofs.Writing.{more_written}
use Rattle.p11_shown.proofs.outlet.write_whole.Goals as goal

pub loop-rest-preserved : goal.loop-rest-preserved
loop-rest-preserved g c =
    more_written (g.W.Write.contents c.args.writer.now) (g.W.Write.contents c.loop-rest.writer) (g.W.Write.contents c.write.new.self) c.args.bytes.now c.loop-rest.rest.now _ _ c.loop-rest.invariant c.in-Ok.ensures.bytes (omega (arith, c.in-Ok.ensures.bound))
