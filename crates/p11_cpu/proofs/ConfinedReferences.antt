-- References of a user program: they land on words of memory below the I/O page, and a write on one of the reach.
use Rattle.std.proofs.Common.{◌≡◌, ◌∙◌, ◌==◌, ◌%◌, ◌<◌, ◌≤◌, ◌≢◌, ℕ, Bool, true, false, cond, refl, ap, subst, sym, arith, IfOk, IsErr, IsOkAnd, MatchResult}
use Rattle.std.proofs.lemmas.Bool.Decides.{nat_tests}
use Rattle.std.proofs.lemmas.Grind.{common_steps}
use Rattle.std.specs.Prelude.{Option, Some, None, Result, Ok, Err}
use Rattle.p11_decode.specs.declared.operand.Size.{Size}
use Rattle.p11_decode.specs.declared.operand.Size.TheVariants.{Word, Byte}
use Rattle.p11_kt11.specs.Laws.Translations.{KeepsAllButSr0, KeepsAllButUserW}
use Rattle.p11_kt11.specs.Management.{Management}
use Rattle.p11_kt11.specs.Registers as management
use Rattle.p11_kt11.specs.Translation.{place, translate_of}
use Rattle.p11_kt11.specs.declared.reference.Abort.{Abort}
use Rattle.p11_kt11.specs.declared.reference.Kind.{Kind}
use Rattle.p11_kt11.specs.declared.reference.Kind.TheVariants.{Read, Write}
use Rattle.p11_psw.specs.declared.mode.Mode.{Mode}
use Rattle.p11_psw.specs.declared.mode.Mode.TheVariants.{User}
use Rattle.p11_psw.specs.declared.vector.Vector.TheVariants.{BusError}
use Rattle.p11_memory.specs.Memory.{Words, has_word, stored, word_at}
use Rattle.p11_unibus.specs.Bus as bus
use Rattle.p11_unibus.specs.Bus.{answered_or, replaced_or, shown_or, transmitter_high_byte}
use Rattle.p11_unibus.specs.Calls.There.{changed_there, read_there}
use Rattle.p11_unibus.specs.Bytes.{byte_at, even, with_byte}
use Rattle.p11_unibus.specs.Registers as devices
use Rattle.p11_unibus.specs.State.{BusState}
use Rattle.p11_unibus.specs.declared.register.Register.{Register}
use Rattle.p11_cpu.specs.declared.part.Part.{Part}
use Rattle.p11_cpu.specs.declared.part.Part.TheVariants as parts
use Rattle.p11_cpu.specs.declared.trap.Trap.{Trap}
use Rattle.p11_cpu.specs.Confinement.{IsReached}
use Rattle.p11_cpu.specs.References.{address_or_trap, after_read, answers, bus_read, change, part_at, reached, read_at, read_bus_byte, read_bus_word, read_in, see, translated, write_at, write_bus_byte, write_bus_word, write_in}
use Rattle.p11_cpu.specs.State.{HardwareState}
use Rattle.p11_cpu.specs.Step.{Step, ◌>>=◌, after, fail, pure}
use Rattle.p11_cpu.proofs.Confined.{Confines, IfGives, Kept, Laws, SameBus, SameManagement, Within, either_gives}

-- WHERE A REFERENCE LANDS

-- a bus address that a user address gives for a kind of reference: it lies below the I/O page
pub record Lands (kind : Kind) (m : Management) (pa : ℕ) : Type 0 where
  pub below : pa < 0o760000
  pub from : ℕ
  pub has_16_bits : from < 0o200000
  pub there : place User from kind m ≡ Ok pa

within_16_bits : (va : ℕ) → (0o200000 ≤ va → ⊥) → va < 0o200000
within_16_bits va bounded = omega (arith, bounded)

no_err : (p : Result ℕ Abort) (pa : ℕ) → p ≡ Ok pa → IsErr p → ⊥
no_err (Ok x) pa e is = cc
no_err (Err abort) pa e is = cc e

lands : (laws : Laws) (m : Management) (kind : Kind) (va pa : ℕ) → Confines m → place User va kind m ≡ Ok pa → Lands kind m pa
lands laws m kind va pa confines e =
    let fits : va < 0o200000 = within_16_bits va (λ beyond. no_err _ pa e (laws.beyond va kind m confines.eight confines.mapped beyond)) in
    record {
      below = subst (λ (p : Result ℕ Abort). IfOk p (λ q. q < 0o760000)) e (confines.off_io_page va kind fits);
      from = va;
      has_16_bits = fits;
      there = e;
    }

-- a write lands on a word of the reach
is_reached : (m : Management) (pa : ℕ) → Lands Write m pa → IsReached m (even pa)
is_reached m pa l =
    (l.from, l.has_16_bits, subst (λ (p : Result ℕ Abort). IsOkAnd p (λ q. even q ≡ even pa)) (sym l.there) refl)

-- TRANSLATION

-- what holds of the hardware and of the bus address where a step gives one
abbrev IfLands : Kind → HardwareState → HardwareState × Result ℕ Trap → Type 0
IfLands kind a (h, Ok pa) = Within a h × Lands kind a.management pa
IfLands kind a (h, Err trap) = Unit {0}

record Landing (kind : Kind) (step : Step ℕ) : Type 0 where
  lands : (a : HardwareState) (turn : ℕ) (h : HardwareState) → Within a h → IfLands kind a (step turn h)

with_management : (a h : HardwareState) (m : Management) → SameManagement a.management m → Within a h → Within a (record h { management = m })
with_management a h m same w =
    record { laws = w.laws; confines = w.confines; processor = w.processor; management = same; bus = w.bus }

marked : (a h : HardwareState) (kind : Kind) (va : ℕ) → Within a h → KeepsAllButUserW h.management (translate_of User va kind h.management).0 → SameManagement a.management (translate_of User va kind h.management).0
marked a h kind va w keeps =
    record {
      kernel = ap (λ (m : Management). m.kernel) keeps.0 ∙ w.management.kernel;
      status = ap (λ (m : Management). m.status) keeps.0 ∙ w.management.status;
      pages = keeps.1 ∙ w.management.pages;
      places = λ other k. w.laws.reach va kind h.management other k ∙ w.management.places other k;
    }

placed : (kind : Kind) (va : ℕ) (a h : HardwareState) (p : Result ℕ Abort) → Within a h → place User va kind h.management ≡ p → IfLands kind a (record h { management = (translate_of User va kind h.management).0 }, address_or_trap p)
placed kind va a h (Ok pa) w e =
    let after : Management = (translate_of User va kind h.management).0 in
    let keeps : KeepsAllButUserW h.management after = subst (λ (p : Result ℕ Abort). MatchResult p (λ _. KeepsAllButUserW h.management after) (λ _. KeepsAllButSr0 h.management after)) e (w.laws.translation va kind h.management) in (
      with_management a h after (marked a h kind va w keeps) w,
      lands w.laws a.management kind va pa w.confines (sym (w.management.places va kind) ∙ e),
    )
placed kind va a h (Err abort) w e = tt

translated_lands : (kind : Kind) (va : ℕ) → Landing kind (translated kind User va)
unfolding translated translate_of
translated_lands kind va =
    record { lands = λ a turn h w. placed kind va a h (place User va kind h.management) w refl }

either_lands : (b : Bool) (kind : Kind) (m n : Step ℕ) → Landing kind m → Landing kind n → Landing kind (cond b m n)
either_lands true kind m n p q = p
either_lands false kind m n p q = q

fail_lands : (kind : Kind) → Landing kind (fail BusError)
fail_lands kind = record { lands = λ a turn h w. tt }

reached_lands : (kind : Kind) (size : Size) (va : ℕ) → Landing kind (reached kind User size va)
unfolding reached
reached_lands kind Word va = either_lands (va % 2 == 1) kind _ _ (fail_lands kind) (translated_lands kind va)
reached_lands kind Byte va = translated_lands kind va

landed : {B : Type 0} (kind : Kind) (a : HardwareState) (turn : ℕ) (next : ℕ → Step B) (p : HardwareState × Result ℕ Trap) → ((pa : ℕ) (h : HardwareState) → Lands kind a.management pa → Within a h → IfGives (Within a) (next pa turn h)) → IfLands kind a p → IfGives (Within a) (after turn p next)
landed kind a turn next (h, Ok pa) kept l = kept pa h l.1 l.0
landed kind a turn next (h, Err trap) kept l = tt

-- what follows a bus address
then_landed : {B : Type 0} (kind : Kind) (m : Step ℕ) (next : ℕ → Step B) → Landing kind m → ((pa : ℕ) (a : HardwareState) (turn : ℕ) (h : HardwareState) → Lands kind a.management pa → Within a h → IfGives (Within a) (next pa turn h)) → Kept (m >>= next)
then_landed kind m next first kept =
    record { keeps = λ a turn h w. landed kind a turn next (m turn h) (λ pa h' l w'. kept pa a turn h' l w') (first.lands a turn h w) }

-- READS

with_same_bus : (a h : HardwareState) (b : BusState) → SameBus a.management a.bus b → Within a h → Within a (record h { bus = b })
with_same_bus a h b same w =
    record { laws = w.laws; confines = w.confines; processor = w.processor; management = w.management; bus = same }

not_read : (b c : BusState) (t : Bool) (r : Option Register) → r ≡ None → cond t b (read_there r b) ≡ b
not_read b c true r e = refl
not_read b c false r e = ap (λ (o : Option Register). read_there o b) e

same_parts : (part : Part) (pa : ℕ) (b : BusState) → bus.after_read pa b ≡ b → bus_read part pa b ≡ b
same_parts parts.Status pa b e = refl
same_parts parts.StackLimit pa b e = refl
same_parts parts.Management pa b e = refl
same_parts parts.Bus pa b e = e

read_leaves : (pa : ℕ) (b : BusState) → devices.register_at pa ≡ None → bus_read (part_at pa) pa b ≡ b
unfolding bus.after_read
read_leaves pa b e = same_parts (part_at pa) pa b (not_read b b (has_word b.memory pa) (devices.register_at pa) e)

read_within : (pa : ℕ) (a h : HardwareState) → pa < 0o760000 → Within a h → Within a (after_read pa h)
unfolding after_read
read_within pa a h below w =
    with_same_bus a h _ (subst (λ (b : BusState). SameBus a.management a.bus b) (sym (read_leaves pa h.bus (w.laws.no_device pa below))) w.bus) w

shown : (a h : HardwareState) (fault : Trap) (o : Option ℕ) → Within a h → IfGives (Within a) (h, shown_or fault o)
shown a h fault (Some word) w = w
shown a h fault None w = tt

read_word_kept : (pa turn : ℕ) (a h : HardwareState) → pa < 0o760000 → Within a h → IfGives (Within a) (read_bus_word pa turn h)
unfolding read_bus_word
read_word_kept pa turn a h below w = shown a _ _ (see turn pa h) (read_within pa a h below w)

even_below : (pa : ℕ) → pa < 0o760000 → even pa < 0o760000
even_below pa below = omega arith

half_given : (a : HardwareState) (turn pa : ℕ) (p : HardwareState × Result ℕ Trap) → IfGives (Within a) p → IfGives (Within a) (after turn p (λ word. pure (byte_at pa word)))
half_given a turn pa (h, Ok word) w = w
half_given a turn pa (h, Err trap) w = tt

read_byte_kept : (pa turn : ℕ) (a h : HardwareState) → pa < 0o760000 → Within a h → IfGives (Within a) (read_bus_byte pa turn h)
unfolding read_bus_byte
read_byte_kept pa turn a h below w =
    half_given a turn pa (read_bus_word (even pa) turn h) (read_word_kept (even pa) turn a h (even_below pa below) w)

read_in_kept : (size : Size) (va : ℕ) → Kept (read_in User size va)
unfolding read_in
read_in_kept Word va =
    then_landed Read (reached Read User Word va) read_bus_word (reached_lands Read Word va)
    (λ pa a turn h l w. read_word_kept pa turn a h l.below w)
read_in_kept Byte va =
    then_landed Read (reached Read User Byte va) read_bus_byte (reached_lands Read Byte va)
    (λ pa a turn h l w. read_byte_kept pa turn a h l.below w)

-- the same in the current mode and in the previous one, which are user mode
pub read_kept : (size : Size) (va : ℕ) → Kept (read_at size va)
unfolding read_at
read_kept size va =
    record { keeps = λ a turn h w. subst (λ (mode : Mode). IfGives (Within a) (read_in mode size va turn h)) (sym w.processor.current) ((read_in_kept size va).keeps a turn h w) }

pub read_previous_kept : (va turn : ℕ) (a h : HardwareState) → Within a h → IfGives (Within a) (read_in h.processor.status.previous Word va turn h)
read_previous_kept va turn a h w =
    subst (λ (mode : Mode). IfGives (Within a) (read_in mode Word va turn h)) (sym w.processor.previous) ((read_in_kept Word va).keeps a turn h w)

-- WRITES

-- a store leaves which addresses hold words, and the word at every other address that holds one
has_stored : (m : Words) (pa word other : ℕ) → has_word (stored m pa word) other ≡ has_word m other
unfolding has_word stored
has_stored m pa word other = grind (arith, common_steps)

word_stored : (m : Words) (pa word other : ℕ) → has_word m pa ≡ true → has_word m other ≡ true → other ≢ pa → word_at (stored m pa word) other ≡ word_at m other
unfolding has_word word_at stored
word_stored m pa word other here there apart = grind (arith, common_steps)

-- a word of the reach is stored
same_stored : (m : Management) (b c : BusState) (pa word : ℕ) → has_word c.memory pa ≡ true → IsReached m pa → SameBus m b c → SameBus m b (record c { memory = stored c.memory pa word })
same_stored m b c pa word here reach s =
    record {
      devices = ap (λ (x : BusState). record x { memory = stored c.memory pa word }) s.devices;
      holds = λ other. has_stored c.memory pa word other ∙ s.holds other;
      words = λ other there out.
          let apart : other ≢ pa = λ e. out (subst (λ (q : ℕ). IsReached m q) (sym e) reach) in
          word_stored c.memory pa word other here (s.holds other ∙ there) apart ∙ s.words other there out;
    }

stored_or_not : (t : Bool) (m : Management) (b c : BusState) (turn pa word : ℕ) → has_word c.memory pa ≡ t → devices.register_at pa ≡ None → (has_word c.memory pa ≡ true → IsReached m pa) → SameBus m b c → SameBus m b (cond t (record c { memory = stored c.memory pa word }) (changed_there turn (devices.register_at pa) word c))
stored_or_not true m b c turn pa word is none reach s = same_stored m b c pa word is (reach is) s
stored_or_not false m b c turn pa word is none reach s =
    subst (λ (r : Option Register). SameBus m b (changed_there turn r word c)) (sym none) s

bus_changed : (m : Management) (b c : BusState) (turn pa word : ℕ) → devices.register_at pa ≡ None → (has_word c.memory pa ≡ true → IsReached m pa) → SameBus m b c → SameBus m b (bus.change turn pa word c)
unfolding bus.change
bus_changed m b c turn pa word none reach s = stored_or_not (has_word c.memory pa) m b c turn pa word refl none reach s

bus_alone : (pa : ℕ) → pa < 0o760000 → management.answers pa ≡ false → part_at pa ≡ parts.Bus
unfolding part_at
bus_alone pa below none =
    let one : (pa == 0o777776) ≡ false = grind (arith, nat_tests) in
    let two : (pa == 0o777774) ≡ false = grind (arith, nat_tests) in
    rw (one, two, none) refl

-- a write below the I/O page changes the bus alone
write_within : (turn pa word : ℕ) (a h : HardwareState) → pa < 0o760000 → (has_word h.bus.memory pa ≡ true → IsReached a.management pa) → Within a h → Within a (change turn pa word h)
unfolding change
write_within turn pa word a h below reach w =
    let there = bus_alone pa below (w.laws.unmanaged pa below) in
    rw there
    (with_same_bus a h _ (bus_changed a.management a.bus h.bus turn pa word (w.laws.no_device pa below) reach w.bus) w)

answered : (a h : HardwareState) (fault : Trap) (b : Bool) → Within a h → IfGives (Within a) (h, answered_or fault b)
answered a h fault true w = w
answered a h fault false w = tt

holds_at_even : (m : Words) (pa : ℕ) → has_word m pa ≡ true → even pa ≡ pa
unfolding has_word
holds_at_even m pa holds = grind (arith, nat_tests, common_steps)

write_word_kept : (pa word turn : ℕ) (a h : HardwareState) → Lands Write a.management pa → Within a h → IfGives (Within a) (write_bus_word pa word turn h)
unfolding write_bus_word
write_word_kept pa word turn a h l w =
    answered a _ _ (answers turn pa h)
    (write_within turn pa word a h l.below (λ holds. subst (λ (q : ℕ). IsReached a.management q) (holds_at_even h.bus.memory pa holds) (is_reached a.management pa l)) w)

replaced : (fault : Trap) (o : Option ℕ) (a h : HardwareState) (new : ℕ → HardwareState) → ((word : ℕ) → Within a (new word)) → IfGives (Within a) (replaced_or fault o new h)
replaced fault (Some word) a h new kept = kept word
replaced fault None a h new kept = tt

write_byte_kept : (pa byte turn : ℕ) (a h : HardwareState) → Lands Write a.management pa → Within a h → IfGives (Within a) (write_bus_byte pa byte turn h)
unfolding write_bus_byte
write_byte_kept pa byte turn a h l w =
    either_gives (pa == transmitter_high_byte) a _ _ w
    (replaced _ (see turn (even pa) h) a h (λ word. change turn (even pa) (with_byte pa byte word) h)
    (λ word. write_within turn (even pa) (with_byte pa byte word) a h (even_below pa l.below) (λ _. is_reached a.management pa l) w))

write_in_kept : (size : Size) (va value : ℕ) → Kept (write_in User size va value)
unfolding write_in
write_in_kept Word va word =
    then_landed Write (reached Write User Word va) (λ pa. write_bus_word pa word) (reached_lands Write Word va)
    (λ pa a turn h l w. write_word_kept pa word turn a h l w)
write_in_kept Byte va byte =
    then_landed Write (reached Write User Byte va) (λ pa. write_bus_byte pa byte) (reached_lands Write Byte va)
    (λ pa a turn h l w. write_byte_kept pa byte turn a h l w)

pub write_kept : (size : Size) (va value : ℕ) → Kept (write_at size va value)
unfolding write_at
write_kept size va value =
    record { keeps = λ a turn h w. subst (λ (mode : Mode). IfGives (Within a) (write_in mode size va value turn h)) (sym w.processor.current) ((write_in_kept size va value).keeps a turn h w) }

pub write_previous_kept : (va word turn : ℕ) (a h : HardwareState) → Within a h → IfGives (Within a) (write_in h.processor.status.previous Word va word turn h)
write_previous_kept va word turn a h w =
    subst (λ (mode : Mode). IfGives (Within a) (write_in mode Word va word turn h)) (sym w.processor.previous) ((write_in_kept Word va word).keeps a turn h w)
