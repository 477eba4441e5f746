-- A turn of a user program that is confined.
use Rattle.std.specs.Prelude.{◌≡◌, ℕ, true, map, false, ◌↔◌, length}
use Rattle.p11_kt11.specs.Management.{Management}
use Rattle.p11_kt11.specs.Page.{unwritten_page}
use Rattle.p11_memory.specs.Memory.{has_word, word_at}
use Rattle.p11_cpu.specs.Confinement.{IsReached, IsConfining, after_devices, begins_service}
use Rattle.p11_cpu.specs.State.{State}

-- The second state differs from the first in no more than a user program of these pages may change: words of its reach,
-- R0 to R5, PC, the user's stack pointer, T and the condition codes, the wait, SR2, and W of user pages.
pub record ChangesWithin (m : Management) (s s' : State) : Type 0 where
  pub turns : s'.turns ≡ s.turns
  pub processor : s'.processor ≡ record s.processor {
    registers = record s'.processor.registers { kernel_sp = s.processor.registers.kernel_sp };
    status = record s'.processor.status {
      current = s.processor.status.current;
      previous = s.processor.status.previous;
      priority = s.processor.status.priority;
    };
    waiting = s'.processor.waiting;
  }
  pub management : s'.management
      ≡ record s.management { user = s'.management.user; instruction = s'.management.instruction }
  pub pages : map unwritten_page s'.management.user ≡ map unwritten_page s.management.user
  pub bus : s'.bus ≡ record s.bus { memory = s'.bus.memory }
  pub holds : (pa : ℕ) → has_word s'.bus.memory pa ≡ has_word s.bus.memory pa
  pub words : (pa : ℕ) → has_word s.bus.memory pa ≡ true → (IsReached m pa → ⊥)
      → word_at s'.bus.memory pa ≡ word_at s.bus.memory pa

-- A turn of a user program that is kept off the I/O page, in which no service begins: what comes after the acts of the
-- devices changes no more than such a program may.
abbrev pub UserTurnIsConfined : State → State → Type 0
UserTurnIsConfined s s' =
    IsConfining s → begins_service s ≡ false → ChangesWithin s.management (after_devices s) s'

-- after such a turn the machine still confines: user mode reaches the words that it reached, and has as many pages
pub record ConfinesStill (s s' : State) : Type 0 where
  pub confining : IsConfining s'
  pub reach : (pa : ℕ) → IsReached s'.management pa ↔ IsReached s.management pa
  pub pages : length s'.management.user ≡ length s.management.user

abbrev pub UserTurnKeepsConfining : State → State → Type 0
UserTurnKeepsConfining s s' = IsConfining s → begins_service s ≡ false → ConfinesStill s s'
