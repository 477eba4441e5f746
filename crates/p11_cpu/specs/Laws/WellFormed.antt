-- What holds of the state of every machine: its registers and the words of its memory have 16 bits, memory ends before
-- the I/O page, and memory management has eight pages in each space.
use Rattle.std.specs.Prelude.{◌≡◌, ◌<◌, All, length}
use Rattle.p11_kt11.specs.Laws.Pages.{IsManagement}
use Rattle.p11_memory.specs.Laws.Memory.{IsMemory}
use Rattle.p11_cpu.specs.declared.registers.Registers.{Registers}
use Rattle.p11_cpu.specs.State.{State}

-- six general registers, and every register a word
pub record IsRegisters (file : Registers) : Type 0 where
  pub count : length file.general ≡ 6
  pub words : All (λ word. word < 0o200000) file.general
  pub kernel_sp : file.kernel_sp < 0o200000
  pub user_sp : file.user_sp < 0o200000
  pub pc : file.pc < 0o200000

pub record IsWellFormed (s : State) : Type 0 where
  pub registers : IsRegisters s.processor.registers
  pub management : IsManagement s.management
  pub memory : IsMemory s.bus.memory
