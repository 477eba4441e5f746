use Rattle.p11_cpu.proofs.QuietTurns.{quiet_with_register}
use Rattle.p11_cpu.proofs.hardware.Hardware.branch_on.Goals as goal

pub returns-then-takes-clause-quiet : goal.returns-then-takes-clause-quiet
returns-then-takes-clause-quiet g c = λ last quiet. quiet_with_register last _ _ _ _ c.set_register.ensures quiet
