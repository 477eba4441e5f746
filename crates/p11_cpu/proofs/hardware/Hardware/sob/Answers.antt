use Rattle.p11_cpu.proofs.QuietTurns.{quiet_with_register}
use Rattle.p11_cpu.proofs.hardware.Hardware.sob.Goals as goal

pub returns-then-register-ne0-clause-quiet : goal.returns-then-register-ne0-clause-quiet
returns-then-register-ne0-clause-quiet g c =
    λ last quiet. quiet_with_register last _ _ _ _ c.set_register-then-register-ne0.ensures (quiet_with_register last _ _ _ _ c.set_register.ensures quiet)

pub returns-else-register-ne0-clause-quiet : goal.returns-else-register-ne0-clause-quiet
returns-else-register-ne0-clause-quiet g c = λ last quiet. quiet_with_register last _ _ _ _ c.set_register.ensures quiet
