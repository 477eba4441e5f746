-- Confinement: what a turn of a user program changes where memory management keeps its addresses off the I/O page.
use Rattle.std.specs.Prelude.{◌≡◌, ℕ, ◌+◌, ◌<◌, Bool, true, not, ◌&&◌, ◌||◌, Option, Some, None, Result, Ok, Err, IsOkAnd}
use Rattle.p11_kt11.specs.declared.reference.Kind.TheVariants.{Write}
use Rattle.p11_kt11.specs.IoPage.{UserStaysOffIoPage}
use Rattle.p11_kt11.specs.Management.{Management}
use Rattle.p11_kt11.specs.Translation.{place}
use Rattle.p11_psw.specs.declared.mode.Mode.TheVariants.{User}
use Rattle.p11_psw.specs.declared.vector.Vector.{Vector}
use Rattle.p11_unibus.specs.Bytes.{even}
use Rattle.p11_cpu.specs.declared.trap.Trap.{Trap}
use Rattle.p11_cpu.specs.State.{HardwareState, State, hardware_of, with_hardware}
use Rattle.p11_cpu.specs.Turns.{devices_acted, instruction_of, marks_cleared, request_granted}

-- a user program that memory management keeps off the I/O page
pub record IsConfining (s : State) : Type 0 where
  pub mapped : s.management.status.enabled ≡ true
  pub current : s.processor.status.current ≡ User
  pub previous : s.processor.status.previous ≡ User
  pub off_io_page : UserStaysOffIoPage s.management

-- the reach of user mode: a word that a write of it gets to
abbrev pub IsReached : Management → ℕ → Type 0
IsReached m pa = (va : ℕ) × (va < 0o200000) × IsOkAnd (place User va Write m) (λ p. even p ≡ pa)

-- the hardware once the marks are cleared and the devices have acted in the next turn: its first two steps
unfoldable pub acted_next : State → HardwareState
acted_next s = devices_acted (s.turns + 1) (marks_cleared (hardware_of s))

-- the hardware after these two steps, and the request that is granted then
unfoldable pub granted_next : State → HardwareState × Option Vector
granted_next s = request_granted (acted_next s)

-- the machine after the first two steps of its next turn
unfoldable pub after_devices : State → State
after_devices s = with_hardware (acted_next s) (record s { turns = s.turns + 1 })

-- an instruction that ended so is followed by a service: that of its trap, of the trace trap, of the stack limit
abbrev pub is_followed : HardwareState × Result Bool Trap → Bool
is_followed (h, Ok traces) = (traces && h.processor.status.trace) || h.yellow_zone
is_followed (h, Err trap) = true

-- whether a service begins in what is left of a turn: of the request that is granted, or after the instruction
abbrev pub serves : ℕ → HardwareState × Option Vector → Bool
serves turn (h, Some vector) = true
serves turn (h, None) = not h.processor.waiting && is_followed (instruction_of turn h)

-- whether a service or the fatal service begins in the next turn
unfoldable pub begins_service : State → Bool
begins_service s = serves (s.turns + 1) (granted_next s)
