use Rattle.std.proofs.Common.{rules}
use Rattle.p11_cpu.specs.Registers.{set_codes_of}
use Rattle.p11_cpu.proofs.hardware.Hardware.set_codes.Goals as goal

pub returns : goal.returns
unfolding set_codes_of
returns g c = search rules
