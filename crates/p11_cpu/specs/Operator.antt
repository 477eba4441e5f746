-- What the operator does to the processor and to memory between turns, and a new machine.
use Rattle.std.specs.Prelude.{ℕ, replicate, slice_get, map, [], ◌∷◌, ◌++◌, false, Bool, Option, unwrap_or}
use Rattle.p11_decode.specs.declared.operand.Register.TheVariants.{R0, R1, R2, R3, R4, R5, Sp, Pc}
use Rattle.p11_kt11.specs.Management.{new_management}
use Rattle.p11_psw.specs.declared.mode.Mode.TheVariants.{Kernel, User}
use Rattle.p11_psw.specs.Status.{new_status, status_of}
use Rattle.p11_cpu.specs.declared.registers.ConsoleRegister.{ConsoleRegister}
use Rattle.p11_cpu.specs.declared.registers.ConsoleRegister.TheVariants.{General, UserSp, Status}
use Rattle.p11_cpu.specs.State.{Processor, HardwareState, State, hardware_of, with_hardware}
use Rattle.p11_cpu.specs.Registers.{with_register}
use Rattle.p11_unibus.specs.Bytes.{has_byte}
use Rattle.p11_unibus.specs.Events.{bus_after_byte}
use Rattle.p11_unibus.specs.State.{new_bus}
use Rattle.p11_cpu.specs.References.{see, change, after_read, answers}
use Rattle.p11_cpu.specs.ProcessorControl.{initialized, resumed}

-- a machine of so many thousand words of memory: zeros everywhere
unfoldable pub new_machine : ℕ → State
new_machine kwords =
    record {
      turns = 0;
      processor =
          record {
            registers = record { general = replicate 6 0; kernel_sp = 0; user_sp = 0; pc = 0 };
            status = new_status;
            stack_limit = 0;
            waiting = false;
            halted = false;
          };
      management = new_management;
      bus = new_bus kwords;
    }

-- THE OPERATOR'S REFERENCES are those of a program at a bus address, in the turn of the count so far, without a trap.

-- whether there is a word at a bus address that can be examined and deposited
unfoldable pub answers_of : ℕ → State → Bool
answers_of pa s = answers s.turns pa (hardware_of s)

-- a real read at an address that answers: the machine after it, and the word
unfoldable pub examine_of : ℕ → State → State × ℕ
examine_of pa s = (with_hardware (after_read pa (hardware_of s)) s, unwrap_or (see s.turns pa (hardware_of s)) 0)

-- a write at an address that answers
unfoldable pub deposit_of : ℕ → ℕ → State → State
deposit_of pa word s = with_hardware (change s.turns pa word (hardware_of s)) s

-- the registers that the operator can set, by their numbers: R0 to R7 of kernel mode, R6 of user mode, the status word
unfoldable pub console_register : ℕ → Option ConsoleRegister
console_register n =
    slice_get (map General (R0 ∷ R1 ∷ R2 ∷ R3 ∷ R4 ∷ R5 ∷ Sp ∷ Pc ∷ []) ++ UserSp ∷ Status ∷ []) n

-- the operator's setting of a register: the status word takes every bit but 11:8, T among them
abbrev pub with_console_register : ConsoleRegister → ℕ → Processor → Processor
with_console_register (General r) value p = record p { registers = with_register Kernel r value p.registers }
with_console_register UserSp value p = record p { registers = with_register User Sp value p.registers }
with_console_register Status value p = record p { status = status_of value }

unfoldable pub set_reg_of : ConsoleRegister → ℕ → State → State
set_reg_of r value s = record s { processor = with_console_register r value s.processor }

-- START: INIT, as of RESET; the status is 0, PC the address, and no waiting or halted mark
-- is left; the other registers and the count of turns stay
unfoldable pub started : ℕ → HardwareState → HardwareState
started pc h =
    let at = resumed pc new_status (initialized h) in
    record at { processor = record at.processor { waiting = false; halted = false } }

unfoldable pub start_of : ℕ → State → State
start_of pc s = with_hardware (started pc (hardware_of s)) s

-- whether memory holds the byte at a bus address
unfoldable pub holds_byte_of : ℕ → State → Bool
holds_byte_of address s = has_byte s.bus.memory address

-- a byte of memory is replaced
unfoldable pub put_byte_of : ℕ → ℕ → State → State
put_byte_of address byte s = record s { bus = bus_after_byte address byte s.bus }
