-- What contracts see of a machine.
use Rattle.p11_unibus.specs.HostMemory.{Prepared}
use Rattle.p11_cpu.specs.State.{State}

-- what contracts see of a machine: its state, and beside it the memory that was found for the acts of its devices
pub record MachineView : Type 0 where
  pub visible : State
  pub prepared : Prepared
