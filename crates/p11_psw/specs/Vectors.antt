-- The vectors of traps and interrupts.
use Rattle.std.specs.Prelude.{ℕ}
use Rattle.p11_psw.specs.declared.vector.Vector.{Vector}
use Rattle.p11_psw.specs.declared.vector.Vector.TheVariants.{BusError, ReservedInstruction, Breakpoint, InputOutputTrap, EmulatorTrap, Trap, MemoryManagement, Receiver, Transmitter, Clock, Disk}

-- the address in kernel space of the vector's first word, the new PC; the new status word is in the next word
abbrev pub vector_address : Vector → ℕ
vector_address BusError = 0o4
vector_address ReservedInstruction = 0o10
vector_address Breakpoint = 0o14
vector_address InputOutputTrap = 0o20
vector_address EmulatorTrap = 0o30
vector_address Trap = 0o34
vector_address Receiver = 0o60
vector_address Transmitter = 0o64
vector_address Clock = 0o100
vector_address Disk = 0o220
vector_address MemoryManagement = 0o250
