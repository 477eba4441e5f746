use Rattle.std.proofs.Common.{arith}
use Rattle.std.proofs.lemmas.Bool.{lt-ltb}
use Rattle.p11_lines.proofs.Calls.{Writes-one}
use Rattle.p11_lines.proofs.Pieces.{Wrote-slice}
use Rattle.p11_run.proofs.finish.say.Goals as goal

pub loop-rest-preserved : goal.loop-rest-preserved
loop-rest-preserved g c =
    Wrote-slice _ _ c.loop-rest.invariant
    (Writes-one _ _ _ _ (lt-ltb 0 c.in-Ok.count (omega (arith, c.in-Ok.count-test.1))) c.in-Ok.ensures.bytes c.in-Ok.ensures.calls) (omega (arith, c.in-Ok.ensures.bound))
