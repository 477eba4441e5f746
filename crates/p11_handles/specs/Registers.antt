-- The registers that C is told, as numbers.
use Rattle.std.specs.Prelude.{ℕ}
use Rattle.p11_lines.specs.declared.answer.Mark.{Mark}
use Rattle.p11_lines.specs.declared.answer.Mark.TheVariants.{Ready, Waiting, Halted}
use Rattle.p11_cpu.specs.OperatorDevices.{status_0_of, status_2_of}
use Rattle.p11_cpu.specs.State.{State}
use Rattle.p11_panel.specs.Shown.{registers_of}
use Rattle.p11_handles.specs.declared.registers.Registers.{Registers}

-- the number by which C knows what the processor does between turns
unfoldable pub number_of_mark : Mark → ℕ
number_of_mark Ready = 0
number_of_mark Waiting = 1
number_of_mark Halted = 2

-- the processor's registers and status word, the count of turns and the mark, as REGS shows them, and what SR0 and SR2
-- of memory management show
unfoldable pub told_registers : State → Registers
told_registers s =
    let shown = registers_of s in
    record {
      turns = shown.turns;
      general = shown.general;
      kernel_sp = shown.kernel_sp;
      user_sp = shown.user_sp;
      pc = shown.pc;
      status = shown.status;
      status_0 = status_0_of s;
      status_2 = status_2_of s;
      mark = number_of_mark shown.mark;
    }
