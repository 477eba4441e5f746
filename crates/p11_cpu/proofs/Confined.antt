-- What a user program may have changed since a hardware, and what it means that a step keeps to that.
use Rattle.std.proofs.Common.{◌≡◌, ℕ, ◌<◌, Bool, true, false, cond, map, length}
use Rattle.std.specs.Prelude.{None, Result, Ok, Err}
use Rattle.p11_kt11.specs.IoPage.{UserStaysOffIoPage}
use Rattle.p11_kt11.specs.Laws.Translations.{UserAddressesHave16Bits, UserTranslationKeeps, UserTranslationKeepsTheReach}
use Rattle.p11_kt11.specs.Management.{Management}
use Rattle.p11_kt11.specs.Page.{unwritten_page}
use Rattle.p11_kt11.specs.Registers as registers
use Rattle.p11_kt11.specs.Translation.{place}
use Rattle.p11_kt11.specs.declared.reference.Kind.{Kind}
use Rattle.p11_psw.specs.Sources.{status_from_return}
use Rattle.p11_psw.specs.declared.mode.Mode.TheVariants.{User}
use Rattle.p11_psw.specs.declared.psw.Psw.{Psw}
use Rattle.p11_memory.specs.Memory.{has_word, word_at}
use Rattle.p11_unibus.specs.Registers as devices
use Rattle.p11_unibus.specs.State.{BusState}
use Rattle.p11_cpu.specs.declared.trap.Trap.{Trap}
use Rattle.p11_cpu.specs.Confinement.{IsReached}
use Rattle.p11_cpu.specs.State.{HardwareState, Processor}
use Rattle.p11_cpu.specs.Step.{Step, ◌>>=◌, after, change, pure, gets}

-- the laws of memory management, of the bus and of the status word on which confinement rests
pub record Laws : Type 0 where
  pub translation : UserTranslationKeeps
  pub reach : UserTranslationKeepsTheReach
  pub beyond : UserAddressesHave16Bits
  pub unmanaged : (pa : ℕ) → pa < 0o760000 → registers.answers pa ≡ false
  pub no_device : (pa : ℕ) → pa < 0o760000 → devices.register_at pa ≡ None
  pub current : (p : Psw) (word : ℕ) → p.current ≡ User → (status_from_return p word).current ≡ User
  pub previous : (p : Psw) (word : ℕ) → p.current ≡ User → p.previous ≡ User → (status_from_return p word).previous ≡ User
  pub priority : (p : Psw) (word : ℕ) → p.current ≡ User → (status_from_return p word).priority ≡ p.priority

-- the pages keep user mode off the I/O page
pub record Confines (m : Management) : Type 0 where
  pub mapped : m.status.enabled ≡ true
  pub eight : length m.user ≡ 8
  pub off_io_page : UserStaysOffIoPage m

-- the second processor is in user mode, and it is the first but for what a user program may change
pub record SameProcessor (p q : Processor) : Type 0 where
  pub kernel_sp : q.registers.kernel_sp ≡ p.registers.kernel_sp
  pub stack_limit : q.stack_limit ≡ p.stack_limit
  pub halted : q.halted ≡ p.halted
  pub current : q.status.current ≡ User
  pub previous : q.status.previous ≡ User
  pub priority : q.status.priority ≡ p.status.priority

-- the same of memory management, and every reference of user mode goes where it went
pub record SameManagement (m n : Management) : Type 0 where
  pub kernel : n.kernel ≡ m.kernel
  pub status : n.status ≡ m.status
  pub pages : map unwritten_page n.user ≡ map unwritten_page m.user
  pub places : (va : ℕ) (kind : Kind) → place User va kind n ≡ place User va kind m

-- the same of the bus, with the pages of the first state
pub record SameBus (m : Management) (b c : BusState) : Type 0 where
  pub devices : c ≡ record b { memory = c.memory }
  pub holds : (pa : ℕ) → has_word c.memory pa ≡ has_word b.memory pa
  pub words : (pa : ℕ) → has_word b.memory pa ≡ true → (IsReached m pa → ⊥) → word_at c.memory pa ≡ word_at b.memory pa

-- the same of the whole hardware
pub record Within (a h : HardwareState) : Type 0 where
  pub laws : Laws
  pub confines : Confines a.management
  pub processor : SameProcessor a.processor h.processor
  pub management : SameManagement a.management h.management
  pub bus : SameBus a.management a.bus h.bus

-- what holds of the hardware where a step gives a value; of a trap nothing is said, since a service follows it
abbrev pub IfGives : {A : Type 0} → (HardwareState → Type 0) → HardwareState × Result A Trap → Type 0
IfGives P (h, Ok x) = P h
IfGives P (h, Err trap) = Unit {0}

-- a step that gives a value keeps to what a user program may change
pub record Kept {A : Type 0} (step : Step A) : Type 0 where
  pub keeps : (a : HardwareState) (turn : ℕ) (h : HardwareState) → Within a h → IfGives (Within a) (step turn h)

-- STEPS AFTER ONE ANOTHER

goes_on : {A B : Type 0} (a : HardwareState) (turn : ℕ) (next : A → Step B) (p : HardwareState × Result A Trap) → ((x : A) → Kept (next x)) → IfGives (Within a) p → IfGives (Within a) (after turn p next)
goes_on a turn next (h, Ok x) kept w = (kept x).keeps a turn h w
goes_on a turn next (h, Err trap) kept w = tt

pub then_kept : {A B : Type 0} {m : Step A} {next : A → Step B} → Kept m → ((x : A) → Kept (next x)) → Kept (m >>= next)
then_kept {A} {B} {m} {next} first kept =
    record { keeps = λ a turn h w. goes_on a turn next (m turn h) kept (first.keeps a turn h w) }

pub pure_kept : {A : Type 0} (x : A) → Kept (pure x)
pure_kept x = record { keeps = λ a turn h w. w }

pub gets_kept : {A : Type 0} (f : HardwareState → A) → Kept (gets f)
gets_kept f = record { keeps = λ a turn h w. w }

pub change_kept : (f : HardwareState → HardwareState) → ((a h : HardwareState) → Within a h → Within a (f h)) → Kept (change f)
change_kept f kept = record { keeps = λ a turn h w. kept a h w }

pub either_kept : {A : Type 0} (b : Bool) (m n : Step A) → Kept m → Kept n → Kept (cond b m n)
either_kept true m n p q = p
either_kept false m n p q = q

pub either_within : (b : Bool) (a x y : HardwareState) → Within a x → Within a y → Within a (cond b x y)
either_within true a x y p q = p
either_within false a x y p q = q

pub either_gives : {A : Type 0} (b : Bool) (a : HardwareState) (x y : HardwareState × Result A Trap) → IfGives (Within a) x → IfGives (Within a) y → IfGives (Within a) (cond b x y)
either_gives true a x y p q = p
either_gives false a x y p q = q
