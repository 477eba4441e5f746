-- What the operator is shown of the processor and of the devices, without effect.
use Rattle.std.specs.Prelude.{if◌then◌else◌}
use Rattle.p11_lines.specs.declared.answer.Devices.{Devices}
use Rattle.p11_lines.specs.declared.answer.Mark.{Mark}
use Rattle.p11_lines.specs.declared.answer.Mark.TheVariants.{Ready, Waiting, Halted}
use Rattle.p11_lines.specs.declared.answer.Registers.{Registers}
use Rattle.p11_psw.specs.Status.{status_word}
use Rattle.p11_cpu.specs.State.{State, Processor}
use Rattle.p11_cpu.specs.OperatorDevices.{machine_devices_of, status_0_of, status_2_of}

-- REGS: the processor's registers and status, the count of turns, and the mark
abbrev pub mark_of : Processor → Mark
mark_of p = if p.halted then Halted else (if p.waiting then Waiting else Ready)

unfoldable pub registers_of : State → Registers
registers_of s =
    let p = s.processor in
    record {
      general = p.registers.general;
      kernel_sp = p.registers.kernel_sp;
      user_sp = p.registers.user_sp;
      pc = p.registers.pc;
      status = status_word p.status;
      turns = s.turns;
      mark = mark_of p;
    }

-- DEVICE: the devices on the bus, and memory management
unfoldable pub shown_devices : State → Devices
shown_devices s =
    record { bus = machine_devices_of s; management = record { status_0 = status_0_of s; status_2 = status_2_of s } }
