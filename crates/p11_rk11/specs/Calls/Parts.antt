-- The registers, a drive and memory after a sector moved, as the state after it.
use Rattle.std.specs.Prelude.{ℕ, Option}
use Rattle.p11_rk11.specs.declared.registers.Registers.{Registers}
use Rattle.p11_rk11.specs.Drives.{MountedDrive}
use Rattle.p11_memory.specs.Memory.{Words}
use Rattle.p11_rk11.specs.State.{Rk11State, with_registers_and_drive}

-- the registers, drive n and memory are changed together
abbrev pub disk_and_memory_with : Rk11State → ℕ → Registers × Option MountedDrive × Words → Rk11State × Words
disk_and_memory_with s n parts = (with_registers_and_drive s n (parts.0, parts.1), parts.2)
