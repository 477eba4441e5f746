use Rattle.std.proofs.Common.{arith}
use Rattle.p11_lines.proofs.Numerals.{value_step}
use Rattle.p11_lines.proofs.parse.value.Goals as goal

pub overflow_mul-value : goal.overflow_mul-value
overflow_mul-value c =
    omega (arith, (value_step _ _ _ _ c.requires.base c.requires.few c.requires.digits c.loop-digit-test.true c.loop-digit.invariant).2)

pub overflow_add-value : goal.overflow_add-value
overflow_add-value c =
    rw c.from.ensures (omega (arith, (value_step _ _ _ _ c.requires.base c.requires.few c.requires.digits c.loop-digit-test.true c.loop-digit.invariant).2))

pub loop-digit-preserved : goal.loop-digit-preserved
loop-digit-preserved c =
    rw c.from.ensures (value_step _ _ _ _ c.requires.base c.requires.few c.requires.digits c.loop-digit-test.true c.loop-digit.invariant).1
