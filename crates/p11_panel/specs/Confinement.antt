-- Confinement over runs: what stays as it was while a user program runs that is kept off the I/O page.
use Rattle.std.specs.Prelude.{◌≡◌, ◌↔◌, ℕ, zero, suc, ◌+◌, ◌<◌, Bool, true, false, not, ◌&&◌, List, [], ◌∷◌, Option, Some, None, is_some, if◌then◌else◌}
use Rattle.p11_lines.specs.declared.answer.Answer.{Answer}
use Rattle.p11_lines.specs.declared.answer.Answer.TheVariants as answers
use Rattle.p11_rk11.specs.Acts.{is_refused, stores_of}
use Rattle.p11_memory.specs.Memory.{has_word, word_at}
use Rattle.p11_rk11.specs.State.{selected}
use Rattle.p11_unibus.specs.Written.{is_listed}
use Rattle.p11_cpu.specs.Confinement.{IsConfining, IsReached, after_devices, begins_service}
use Rattle.p11_cpu.specs.State.{State}
use Rattle.p11_panel.specs.declared.command.Command.{Command}
use Rattle.p11_panel.specs.declared.command.Command.TheVariants as commands
use Rattle.p11_panel.specs.Commands.{CommandStep}
use Rattle.p11_cpu.specs.Turns.{after_turns}

-- in none of the next k turns does a service begin
abbrev pub ServesNone : ℕ → State → Type 0
ServesNone k s = (j : ℕ) → j < k → begins_service (after_turns j s) ≡ false

-- whether a disk read stores a word at an address in the next turn: its sector is due, a pack is there, and every
-- address to which it stores is memory
unfoldable pub stores_at : ℕ → State → Bool
stores_at pa s =
    is_listed pa (stores_of (s.turns + 1) s.bus.disk)
    && (is_some (selected s.bus.disk) && not (is_refused s.bus.disk.registers s.bus.memory))

-- the word that disk reads of the first k turns stored last at an address, if one did
unfoldable pub last_stored : ℕ → ℕ → State → Option ℕ
last_stored zero pa s = None
last_stored (suc k) pa s =
    if stores_at pa (after_turns k s) then Some (word_at (after_devices (after_turns k s)).bus.memory pa)
    else last_stored k pa s

abbrev pub stored_or : Option ℕ → ℕ → ℕ
stored_or (Some word) before = word
stored_or None before = before

-- After k turns the machine still confines, user mode reaches the same words, and every other word of memory is as it
-- was, or as a disk read of these turns last stored it.
pub record StaysConfined (k : ℕ) (s s' : State) : Type 0 where
  pub confining : IsConfining s'
  pub reach : (pa : ℕ) → IsReached s'.management pa ↔ IsReached s.management pa
  pub words : (pa : ℕ) → has_word s.bus.memory pa ≡ true → (IsReached s.management pa → ⊥)
      → word_at s'.bus.memory pa ≡ stored_or (last_stored k pa s) (word_at s.bus.memory pa)

-- a run that answers its k turns
abbrev pub ConfinesStop : {A : Type 0} → State → Answer A → State → Type 0
ConfinesStop s (answers.Stop typed reason k pc) s' = IsConfining s → ServesNone k s → StaysConfined k s s'
ConfinesStop s _ s' = Unit {0}

-- the run of a command, if it makes one
abbrev pub ConfinesRun : {A : Type 0} → State → Command A → Answer A → State → Type 0
ConfinesRun s (commands.Step n) answer s' = ConfinesStop s answer s'
ConfinesRun s (commands.Continue n) answer s' = ConfinesStop s answer s'
ConfinesRun s _ answer s' = Unit {0}

-- a list of commands is done, as CommandsRun says, and each run in it is confined
unfoldable pub CommandsConfined : {A : Type 0} → State → List (Command A) → List (Answer A) → State → Type 0
CommandsConfined s [] [] s' = s' ≡ s
CommandsConfined s (command ∷ commands) (answer ∷ answers) s'' =
    (s' : State) × CommandStep s command answer s' × ConfinesRun s command answer s'
    × CommandsConfined s' commands answers s''
CommandsConfined s _ _ s' = ⊥
