-- Runs of a user program that is kept off the I/O page: turn by turn, and then a list of commands.
use Rattle.std.proofs.Common.{◌≡◌, ◌∙◌, ◌+◌, ◌<◌, ℕ, zero, suc, Bool, true, false, not, ◌&&◌, List, [], ◌∷◌, ◌++◌, length, take, get_or, Option, Some, None, is_some, cond, refl, ap, sym, subst, arith, inl, inr}
use Rattle.std.proofs.lemmas.Bool.{cases_Bool}
use Rattle.std.proofs.lemmas.List.{take_more}
use Rattle.p11_lines.specs.declared.answer.Answer.{Answer}
use Rattle.p11_rk11.specs.Acts.{after_sector, after_sector_on, disk_after_transfer, disk_after_turn, is_refused, stores_of}
use Rattle.p11_rk11.specs.Drives.{MountedDrive}
use Rattle.p11_memory.specs.Memory.{Words, has_word, word_at}
use Rattle.p11_words.specs.DueTurns.{is_due}
use Rattle.p11_rk11.specs.State.{selected}
use Rattle.p11_rk11.specs.declared.registers.Registers.{Registers}
use Rattle.p11_unibus.specs.Acts.{bus_after_clock, bus_after_disk, bus_after_line, bus_after_turn}
use Rattle.p11_unibus.specs.Events.{bus_after_take}
use Rattle.p11_unibus.specs.State.{BusState}
use Rattle.p11_unibus.specs.Kept.Written.{ChangedOnly}
use Rattle.p11_unibus.specs.Written.{is_listed}
use Rattle.p11_cpu.specs.Laws.Confined.{ChangesWithin, ConfinesStill, UserTurnIsConfined, UserTurnKeepsConfining}
use Rattle.p11_cpu.specs.Confinement.{IsConfining, acted_next, after_devices, begins_service}
use Rattle.p11_cpu.specs.OperatorDevices.{take_typed_of}
use Rattle.p11_cpu.specs.State.{State}
use Rattle.p11_cpu.specs.Turns.{after_turns, devices_acted, marks_cleared, turn_of}
use Rattle.p11_panel.specs.declared.command.Command.{Command}
use Rattle.p11_panel.specs.Commands.{CommandStep}
use Rattle.p11_panel.specs.Confinement.{ConfinesRun, CommandsConfined, ServesNone, StaysConfined, last_stored, stored_or, stores_at}

-- the laws of a turn and of the acts of the devices on which this rests
pub record Laws : Type 0 where
  pub turn : (s : State) → length s.management.user ≡ 8 → UserTurnIsConfined s (turn_of s).0
  pub still : (s : State) → length s.management.user ≡ 8 → UserTurnKeepsConfining s (turn_of s).0
  pub acts : (b : BusState) (turn : ℕ) → ChangedOnly (stores_of turn b.disk) b.memory (bus_after_turn turn b).memory

-- what k turns leave, with which addresses are memory and how many pages user mode has
record Stays (k : ℕ) (s s' : State) : Type 0 where
  confined : StaysConfined k s s'
  holds : (pa : ℕ) → has_word s'.bus.memory pa ≡ has_word s.bus.memory pa
  pages : length s'.management.user ≡ 8

-- WHAT THE ACTS OF THE DEVICES STORE

-- a refused sector, or one without a pack, stores nothing
nothing_moved : (turn : ℕ) (r : Registers) (d : Option MountedDrive) (memory : Words) → (is_some d && not (is_refused r memory)) ≡ false → (after_sector_on turn r d memory).2 ≡ memory
unfolding after_sector
nothing_moved turn r None memory e = refl
nothing_moved turn r (Some drive) memory e =
    elim (cases_Bool (is_refused r memory)) [
      | inl refused ↦ rw refused refl
      | inr moves ↦ cc (ap not moves, e)
    ]

memory_left : (turn : ℕ) (b : BusState) → (is_some (selected b.disk) && not (is_refused b.disk.registers b.memory)) ≡ false → (bus_after_turn turn b).memory ≡ b.memory
unfolding bus_after_turn bus_after_clock bus_after_line bus_after_disk disk_after_turn disk_after_transfer
memory_left turn b e =
    elim (cases_Bool (is_due turn b.disk.registers.transfer)) [
      | inl due ↦ rw due (nothing_moved turn b.disk.registers (selected b.disk) b.memory e)
      | inr undue ↦ rw undue refl
    ]

both_or_first : (one other : Bool) → (one && other) ≡ false → one ≡ true → other ≡ false
both_or_first true other e first = e
both_or_first false other e first = cc first

-- a word that no disk read stores stays
acts_leave : Laws → (s : State) (pa : ℕ) → has_word s.bus.memory pa ≡ true → stores_at pa s ≡ false → word_at (after_devices s).bus.memory pa ≡ word_at s.bus.memory pa
unfolding stores_at after_devices acted_next devices_acted marks_cleared
acts_leave laws s pa there none =
    elim (cases_Bool (is_listed pa (stores_of (s.turns + 1) s.bus.disk))) [
      | inl listed ↦ ap (λ (m : Words). word_at m pa) (memory_left (s.turns + 1) s.bus (both_or_first _ _ none listed))
      | inr other ↦ (laws.acts s.bus (s.turns + 1)).stays pa there other
    ]

acts_hold : Laws → (s : State) (pa : ℕ) → has_word (after_devices s).bus.memory pa ≡ has_word s.bus.memory pa
unfolding after_devices acted_next devices_acted marks_cleared
acts_hold laws s pa = (laws.acts s.bus (s.turns + 1)).holds pa

-- ONE TURN MORE

stored_last : (stores : Bool) (word before : ℕ) (earlier : Option ℕ) → (stores ≡ false → word ≡ stored_or earlier before) → word ≡ stored_or (cond stores (Some word) earlier) before
stored_last true word before earlier same = refl
stored_last false word before earlier same = same refl

one_more : Laws → (k : ℕ) (s : State) → begins_service (after_turns k s) ≡ false → Stays k s (after_turns k s) → Stays (suc k) s (after_turns (suc k) s)
unfolding after_turns last_stored
one_more laws k s none stays =
    let t = after_turns k s in
    let confined = stays.confined in
    let changes : ChangesWithin t.management (after_devices t) (turn_of t).0 = laws.turn t stays.pages confined.confining none in
    let still : ConfinesStill t (turn_of t).0 = laws.still t stays.pages confined.confining none in
    record {
      confined = record {
        confining = still.confining;
        reach = λ pa. (λ r. (confined.reach pa).0 ((still.reach pa).0 r), λ r. (still.reach pa).1 ((confined.reach pa).1 r));
        words = λ pa there out.
            let here : has_word t.bus.memory pa ≡ true = stays.holds pa ∙ there in
            changes.words pa (acts_hold laws t pa ∙ here) (λ r. out ((confined.reach pa).0 r))
            ∙ stored_last (stores_at pa t) _ _ (last_stored k pa s) (λ unstored. acts_leave laws t pa here unstored ∙ confined.words pa there out);
      };
      holds = λ pa. changes.holds pa ∙ acts_hold laws t pa ∙ stays.holds pa;
      pages = still.pages ∙ stays.pages;
    }

no_turn : (s : State) → length s.management.user ≡ 8 → IsConfining s → Stays 0 s (after_turns 0 s)
unfolding after_turns last_stored
no_turn s eight confining =
    record {
      confined = record { confining = confining; reach = λ pa. (λ r. r, λ r. r); words = λ pa there out. refl };
      holds = λ pa. refl;
      pages = eight;
    }

turns_stay : Laws → (s : State) (k : ℕ) → length s.management.user ≡ 8 → IsConfining s → ServesNone k s → Stays k s (after_turns k s)
turns_stay laws s zero eight confining none = no_turn s eight confining
turns_stay laws s (suc k) eight confining none =
    one_more laws k s (none k (omega arith)) (turns_stay laws s k eight confining (λ j below. none j (omega arith)))

pub run_confined : Laws → (s : State) (k : ℕ) → length s.management.user ≡ 8 → IsConfining s → ServesNone k s → StaysConfined k s (after_turns k s)
run_confined laws s k eight confining none = (turns_stay laws s k eight confining none).confined

-- THE ANSWER OF A RUN

-- typed characters that are taken are no part of this
taken : (k : ℕ) (s last : State) → StaysConfined k s last → StaysConfined k s (take_typed_of last)
unfolding take_typed_of bus_after_take
taken k s last c =
    record {
      confining = record {
        mapped = c.confining.mapped;
        current = c.confining.current;
        previous = c.confining.previous;
        off_io_page = c.confining.off_io_page;
      };
      reach = c.reach;
      words = c.words;
    }

pub stop_confined : (k : ℕ) (s last s' : State) → last ≡ after_turns k s → s' ≡ take_typed_of last → StaysConfined k s (after_turns k s) → StaysConfined k s s'
stop_confined k s last s' run typed c =
    subst (λ (x : State). StaysConfined k s x) (sym (typed ∙ ap take_typed_of run)) (taken k s (after_turns k s) c)

-- LISTS OF COMMANDS

pub confined_nothing : (A : Type 0) (s : State) → CommandsConfined {A = A} s [] [] s
unfolding CommandsConfined
confined_nothing A s = refl

confined_next : {A : Type 0} (commands : List (Command A)) (answers : List (Answer A)) (command : Command A) (answer : Answer A) (s s' s'' : State) → CommandsConfined s commands answers s' → CommandStep s' command answer s'' → ConfinesRun s' command answer s'' → CommandsConfined s (commands ++ command ∷ []) (answers ++ answer ∷ []) s''
unfolding CommandsConfined
confined_next [] [] command answer s s' s'' played act run =
    let P : State → Type 0 = λ x. CommandStep x command answer s'' in
    let Q : State → Type 0 = λ x. ConfinesRun x command answer s'' in
    (s'', subst P played act, subst Q played run, refl)
confined_next [] (a ∷ answers) command answer s s' s'' played act run = absurd played
confined_next (c ∷ commands) [] command answer s s' s'' played act run = absurd played
confined_next (c ∷ commands) (a ∷ answers) command answer s s' s'' played act run =
    (played.0, played.1, played.2, confined_next commands answers command answer played.0 s' s'' played.3 act run)

-- the same for a loop over a slice
pub confined_more : {A : Type 0} (commands : List (Command A)) (i : ℕ) (command : Command A) (answers more : List (Answer A)) (answer : Answer A) (s s' s'' : State) → i < length commands → command ≡ get_or commands i command → CommandsConfined s (take i commands) answers s' → CommandStep s' command answer s'' → ConfinesRun s' command answer s'' → more ≡ answers ++ answer ∷ [] → CommandsConfined s (take (i + 1) commands) more s''
confined_more {A} commands i command answers more answer s s' s'' h item played act run e =
    let P : Command A → Type 0 = λ x. CommandsConfined s (take i commands ++ x ∷ []) (answers ++ answer ∷ []) s'' in
    rw (take_more commands i command h, e) (subst P item (confined_next (take i commands) answers command answer s s' s'' played act run))
