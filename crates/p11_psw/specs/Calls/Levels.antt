-- The level at which each vector's request comes.
use Rattle.std.specs.Prelude.{Option, Some, None}
use Rattle.p11_psw.specs.declared.priority.Priority.{Priority}
use Rattle.p11_psw.specs.declared.priority.Priority.TheVariants.{Level4, Level5, Level6}
use Rattle.p11_psw.specs.declared.vector.Vector.{Vector}
use Rattle.p11_psw.specs.declared.vector.Vector.TheVariants.{BusError, ReservedInstruction, Breakpoint}
use Rattle.p11_psw.specs.declared.vector.Vector.TheVariants.{InputOutputTrap, EmulatorTrap, Trap, MemoryManagement}
use Rattle.p11_psw.specs.declared.vector.Vector.TheVariants.{Receiver, Transmitter, Clock, Disk}

-- the level at which a device interrupts; a trap has none
abbrev pub vector_level : Vector → Option Priority
vector_level Clock = Some Level6
vector_level Disk = Some Level5
vector_level Receiver = Some Level4
vector_level Transmitter = Some Level4
vector_level BusError = None
vector_level ReservedInstruction = None
vector_level Breakpoint = None
vector_level InputOutputTrap = None
vector_level EmulatorTrap = None
vector_level Trap = None
vector_level MemoryManagement = None
