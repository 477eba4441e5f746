-- Characters that were typed and that nobody took are nothing to a step: it does the same, and leaves them.
use Rattle.std.proofs.Common.{◌≡◌, ◌∙◌, ap, refl, ℕ, ◌%◌, ◌==◌, Bool, true, false, cond, List, ◌++◌, Option, Some, None, Result, Ok, Err}
use Rattle.std.specs.Prelude.{option_map, is_some}
use Rattle.std.specs.Option.{option_map_or}
use Rattle.p11_decode.specs.declared.operand.Register as registers
use Rattle.p11_decode.specs.declared.operand.Size.{Size}
use Rattle.p11_decode.specs.declared.operand.Size.TheVariants.{Word, Byte}
use Rattle.p11_kt11.specs.Registers as management
use Rattle.p11_kt11.specs.Translation.{translate_of}
use Rattle.p11_kt11.specs.declared.reference.Abort.{Abort}
use Rattle.p11_kt11.specs.declared.reference.Kind.{Kind}
use Rattle.p11_kt11.specs.declared.reference.Kind.TheVariants.{Read, Write}
use Rattle.p11_psw.specs.declared.mode.Mode.{Mode}
use Rattle.p11_psw.specs.declared.psw.Psw.{Psw}
use Rattle.p11_psw.specs.declared.vector.Vector.{Vector}
use Rattle.p11_psw.specs.declared.vector.Vector.TheVariants.{BusError, MemoryManagement}
use Rattle.p11_psw.specs.declared.zones.Zone.{Zone}
use Rattle.p11_psw.specs.declared.zones.Zone.TheVariants.{Clear, Yellow, Red}
use Rattle.p11_alu.specs.declared.codes.Codes.{Codes}
use Rattle.p11_memory.specs.Memory.{has_word, word_at}
use Rattle.p11_unibus.specs.Bus as bus
use Rattle.p11_unibus.specs.Bus.{register_after_read, register_changed, register_word, replaced_or, shown_or, answered_or, transmitter_high_byte}
use Rattle.p11_unibus.specs.Bytes.{even, byte_at, with_byte}
use Rattle.p11_unibus.specs.Registers.{register_at}
use Rattle.p11_unibus.specs.State.{BusState}
use Rattle.p11_unibus.specs.declared.register.Register.{Register}
use Rattle.p11_unibus.specs.declared.register.Register.TheVariants.{Clock, Line, Disk, Switches}
use Rattle.p11_cpu.specs.References.{see, shown_by, address_or_trap, change, bus_written, bus_read, after_read, answers, part_at, read_bus_word, write_bus_word, read_bus_byte, write_bus_byte, translated, reached, read_in, write_in, read_at, write_at, processor_written, management_written}
use Rattle.p11_cpu.specs.Registers.{check_stack_limit, codes_of, get, register_of, set, set_codes, set_codes_for, set_codes_of, set_register_of, step_down, step_up, zone_in}
use Rattle.p11_cpu.specs.Services.{service_of, fatal_of}
use Rattle.p11_cpu.specs.State.{HardwareState}
use Rattle.p11_cpu.specs.Step as steps
use Rattle.p11_cpu.specs.Step.{Step, ◌>>=◌, after, pure, gets, fail}
use Rattle.p11_cpu.specs.Turns.{trapped}

-- a bus on which these characters were typed before its own
abbrev pub bus_behind : List ℕ → BusState → BusState
bus_behind earlier b = record b { typed = earlier ++ b.typed }

abbrev pub behind : List ℕ → HardwareState → HardwareState
behind earlier h = record h { bus = bus_behind earlier h.bus }

-- TRAPS, whose type other crates can't name: that of what is made of one

abbrev pub Source : {A B : Type 0} → (A → B) → Type 0
Source {A} f = A

abbrev pub Trap : Type 0
Trap = Source trapped

-- the service of each vector does the same behind such characters, and so does the fatal one
pub record Serves : Type 0 where
  pub service : (vector : Vector) (turn : ℕ) (earlier : List ℕ) (h : HardwareState) → service_of vector turn (behind earlier h) ≡ (behind earlier (service_of vector turn h).0, (service_of vector turn h).1)
  pub fatal : (pc : ℕ) (status : Psw) (turn : ℕ) (earlier : List ℕ) (h : HardwareState) → fatal_of pc status turn (behind earlier h) ≡ behind earlier (fatal_of pc status turn h)

-- what follows a trap is the same, if that holds
abbrev pub Tame : Trap → Type 0
Tame trap = Serves → (turn : ℕ) (earlier : List ℕ) (h : HardwareState) → trapped trap turn (behind earlier h) ≡ behind earlier (trapped trap turn h)

-- a value of which this holds, or such a trap
abbrev pub Fine : {A : Type 0} → (A → Type 0) → Result A Trap → Type 0
Fine P (Ok x) = P x
Fine P (Err trap) = Tame trap

abbrev pub Any : {A : Type 0} → A → Type 0
Any x = Unit {0}

-- a step does the same behind characters that were typed earlier, and gives what is so
pub record Blind {A : Type 0} (step : Step A) (P : A → Type 0) : Type 0 where
  pub same : (earlier : List ℕ) (turn : ℕ) (h : HardwareState) → step turn (behind earlier h) ≡ (behind earlier (step turn h).0, (step turn h).1)
  pub gives : (turn : ℕ) (h : HardwareState) → Fine P (step turn h).1

-- STEPS AFTER ONE ANOTHER

goes_on : {A B : Type 0} {P : A → Type 0} {Q : B → Type 0} (earlier : List ℕ) (turn : ℕ) (next : A → Step B) (p : HardwareState × Result A Trap) → Fine P p.1 → ((x : A) → P x → Blind (next x) Q) → after turn (behind earlier p.0, p.1) next ≡ (behind earlier (after turn p next).0, (after turn p next).1)
goes_on earlier turn next (h, Ok x) fine blind = (blind x fine).same earlier turn h
goes_on earlier turn next (h, Err trap) fine blind = refl

gives_on : {A B : Type 0} {P : A → Type 0} {Q : B → Type 0} (turn : ℕ) (next : A → Step B) (p : HardwareState × Result A Trap) → Fine P p.1 → ((x : A) → P x → Blind (next x) Q) → Fine Q (after turn p next).1
gives_on turn next (h, Ok x) fine blind = (blind x fine).gives turn h
gives_on turn next (h, Err trap) fine blind = fine

pub then_blind : {A B : Type 0} {m : Step A} {next : A → Step B} {P : A → Type 0} {Q : B → Type 0} → Blind m P → ((x : A) → P x → Blind (next x) Q) → Blind (m >>= next) Q
then_blind {A} {B} {m} {next} first blind =
    record {
      same = λ earlier turn h. ap (λ (p : HardwareState × Result A Trap). after turn p next) (first.same earlier turn h) ∙ goes_on earlier turn next (m turn h) (first.gives turn h) blind;
      gives = λ turn h. gives_on turn next (m turn h) (first.gives turn h) blind;
    }

pub pure_blind : {A : Type 0} {P : A → Type 0} (x : A) → P x → Blind (pure x) P
pure_blind x fine = record { same = λ earlier turn h. refl; gives = λ turn h. fine }

-- a value, and a change that succeeded
abbrev given : {A : Type 0} → HardwareState → A → HardwareState × Result A Trap
given h x = (h, Ok x)

abbrev done : HardwareState → HardwareState × Result (Unit {0}) Trap
done h = (h, Ok tt)

pub gets_blind : {A : Type 0} {P : A → Type 0} (f : HardwareState → A) → ((earlier : List ℕ) (h : HardwareState) → f (behind earlier h) ≡ f h) → ((h : HardwareState) → P (f h)) → Blind (gets f) P
gets_blind {A} f same fine = record { same = λ earlier turn h. ap (given (behind earlier h)) (same earlier h); gives = λ turn h. fine h }

pub change_blind : (f : HardwareState → HardwareState) → ((earlier : List ℕ) (h : HardwareState) → f (behind earlier h) ≡ behind earlier (f h)) → Blind (steps.change f) Any
change_blind f same = record { same = λ earlier turn h. ap done (same earlier h); gives = λ turn h. tt }

pub fail_blind : {A : Type 0} {P : A → Type 0} (vector : Vector) → Blind (fail {A = A} vector) P
unfolding trapped
fail_blind vector = record { same = λ earlier turn h. refl; gives = λ turn h serves later earlier x. ap (λ p. p.0) (serves.service vector later earlier x) }

pub either_blind : {A : Type 0} {P : A → Type 0} (b : Bool) (m n : Step A) → Blind m P → Blind n P → Blind (cond b m n) P
either_blind true m n p q = p
either_blind false m n p q = q

-- either way
pub by_cases : {X : Type 0} (P : X → Type 0) (b : Bool) (x y : X) → P x → P y → P (cond b x y)
by_cases P true x y p q = p
by_cases P false x y p q = q

pub either_behind : (b : Bool) (earlier : List ℕ) (x y x' y' : HardwareState) → x' ≡ behind earlier x → y' ≡ behind earlier y → cond b x' y' ≡ behind earlier (cond b x y)
either_behind true earlier x y x' y' p q = p
either_behind false earlier x y x' y' p q = q

pub either_gives : {A : Type 0} (b : Bool) (earlier : List ℕ) (x y x' y' : HardwareState × A) → x' ≡ (behind earlier x.0, x.1) → y' ≡ (behind earlier y.0, y.1) → cond b x' y' ≡ (behind earlier (cond b x y).0, (cond b x y).1)
either_gives true earlier x y x' y' p q = p
either_gives false earlier x y x' y' p q = q

-- THE BUS

either_bus : (c : Bool) (earlier : List ℕ) (x y x' y' : BusState) → x' ≡ bus_behind earlier x → y' ≡ bus_behind earlier y → cond c x' y' ≡ bus_behind earlier (cond c x y)
either_bus true earlier x y x' y' p q = p
either_bus false earlier x y x' y' p q = q

register_read : (r : Register) (earlier : List ℕ) (b : BusState) → register_after_read r (bus_behind earlier b) ≡ bus_behind earlier (register_after_read r b)
unfolding register_after_read
register_read (Clock r) earlier b = refl
register_read (Line r) earlier b = refl
register_read (Disk r) earlier b = refl
register_read Switches earlier b = refl

any_read : (found : Option Register) (earlier : List ℕ) (b : BusState) → option_map_or (λ register. register_after_read register (bus_behind earlier b)) found (bus_behind earlier b) ≡ bus_behind earlier (option_map_or (λ register. register_after_read register b) found b)
any_read None earlier b = refl
any_read (Some r) earlier b = register_read r earlier b

read_same : (pa : ℕ) (earlier : List ℕ) (b : BusState) → bus.after_read pa (bus_behind earlier b) ≡ bus_behind earlier (bus.after_read pa b)
unfolding bus.after_read
read_same pa earlier b = either_bus (has_word b.memory pa) earlier _ _ _ _ refl (any_read (register_at pa) earlier b)

register_written : (turn : ℕ) (r : Register) (word : ℕ) (earlier : List ℕ) (b : BusState) → register_changed turn r word (bus_behind earlier b) ≡ bus_behind earlier (register_changed turn r word b)
unfolding register_changed
register_written turn (Clock r) word earlier b = refl
register_written turn (Line r) word earlier b = refl
register_written turn (Disk r) word earlier b = refl
register_written turn Switches word earlier b = refl

any_written : (turn : ℕ) (found : Option Register) (word : ℕ) (earlier : List ℕ) (b : BusState) → option_map_or (λ register. register_changed turn register word (bus_behind earlier b)) found (bus_behind earlier b) ≡ bus_behind earlier (option_map_or (λ register. register_changed turn register word b) found b)
any_written turn None word earlier b = refl
any_written turn (Some r) word earlier b = register_written turn r word earlier b

change_same : (turn pa word : ℕ) (earlier : List ℕ) (b : BusState) → bus.change turn pa word (bus_behind earlier b) ≡ bus_behind earlier (bus.change turn pa word b)
unfolding bus.change
change_same turn pa word earlier b = either_bus (has_word b.memory pa) earlier _ _ _ _ refl (any_written turn (register_at pa) word earlier b)

register_shown : (turn : ℕ) (r : Register) (earlier : List ℕ) (b : BusState) → register_word turn r (bus_behind earlier b) ≡ register_word turn r b
unfolding register_word
register_shown turn (Clock r) earlier b = refl
register_shown turn (Line r) earlier b = refl
register_shown turn (Disk r) earlier b = refl
register_shown turn Switches earlier b = refl

any_shown : (turn : ℕ) (found : Option Register) (earlier : List ℕ) (b : BusState) → option_map (λ register. register_word turn register (bus_behind earlier b)) found ≡ option_map (λ register. register_word turn register b) found
any_shown turn None earlier b = refl
any_shown turn (Some r) earlier b = ap Some (register_shown turn r earlier b)

see_same : (turn pa : ℕ) (earlier : List ℕ) (b : BusState) → bus.see turn pa (bus_behind earlier b) ≡ bus.see turn pa b
unfolding bus.see
see_same turn pa earlier b =
    ap (λ (other : Option ℕ). cond (has_word b.memory pa) (Some (word_at b.memory pa)) other) (any_shown turn (register_at pa) earlier b)

-- THE ADDRESS SPACE

-- what answers at an address, whose type other crates can't name either
abbrev pub Part : Type 0
Part = Source shown_by

seen : (turn pa : ℕ) (earlier : List ℕ) (h : HardwareState) → see turn pa (behind earlier h) ≡ see turn pa h
unfolding see part_at
seen turn pa earlier h =
    let P : Part → Type 0 = λ part. shown_by part turn pa h.processor h.management (bus_behind earlier h.bus) ≡ shown_by part turn pa h.processor h.management h.bus in
    by_cases P (pa == 0o777776) _ _ refl (by_cases P (pa == 0o777774) _ _ refl (by_cases P (management.answers pa) _ _ refl (see_same turn pa earlier h.bus)))

bus_writes : (turn pa word : ℕ) (earlier : List ℕ) (b : BusState) → bus_written (part_at pa) turn pa word (bus_behind earlier b) ≡ bus_behind earlier (bus_written (part_at pa) turn pa word b)
unfolding part_at
bus_writes turn pa word earlier b =
    let P : Part → Type 0 = λ part. bus_written part turn pa word (bus_behind earlier b) ≡ bus_behind earlier (bus_written part turn pa word b) in
    by_cases P (pa == 0o777776) _ _ refl (by_cases P (pa == 0o777774) _ _ refl (by_cases P (management.answers pa) _ _ refl (change_same turn pa word earlier b)))

written : (turn pa word : ℕ) (earlier : List ℕ) (h : HardwareState) → change turn pa word (behind earlier h) ≡ behind earlier (change turn pa word h)
unfolding change
written turn pa word earlier h =
    ap (λ (b : BusState). record h { processor = processor_written (part_at pa) word h.processor; management = management_written (part_at pa) pa word h.management; bus = b })
    (bus_writes turn pa word earlier h.bus)

bus_reads : (pa : ℕ) (earlier : List ℕ) (b : BusState) → bus_read (part_at pa) pa (bus_behind earlier b) ≡ bus_behind earlier (bus_read (part_at pa) pa b)
unfolding part_at
bus_reads pa earlier b =
    let P : Part → Type 0 = λ part. bus_read part pa (bus_behind earlier b) ≡ bus_behind earlier (bus_read part pa b) in
    by_cases P (pa == 0o777776) _ _ refl (by_cases P (pa == 0o777774) _ _ refl (by_cases P (management.answers pa) _ _ refl (read_same pa earlier b)))

read : (pa : ℕ) (earlier : List ℕ) (h : HardwareState) → after_read pa (behind earlier h) ≡ behind earlier (after_read pa h)
unfolding after_read
read pa earlier h = ap (λ (b : BusState). record h { bus = b }) (bus_reads pa earlier h.bus)

-- REFERENCES

fine_fault : (vector : Vector) (turn : ℕ) (h : HardwareState) → Fine (Any {A = Unit {0}}) (fail {A = Unit {0}} vector turn h).1
fine_fault vector turn h = (fail_blind {A = Unit {0}} {P = Any} vector).gives turn h

shown_fine : (found : Option ℕ) (fault : Trap) → Tame fault → Fine (Any {A = ℕ}) (shown_or fault found)
shown_fine (Some word) fault tame = tt
shown_fine None fault tame = tame

answered_fine : (b : Bool) (fault : Trap) → Tame fault → Fine (Any {A = Unit {0}}) (answered_or fault b)
answered_fine true fault tame = tt
answered_fine false fault tame = tame

word_read : (fault : Trap) (x y : HardwareState) (found other : Option ℕ) → x ≡ y → found ≡ other → ◌≡◌ {A = HardwareState × Result ℕ Trap} (x, shown_or fault found) (y, shown_or fault other)
word_read fault x y found other e f = λ i. (e i, shown_or fault (f i))

word_written : (fault : Trap) (x y : HardwareState) (found other : Option ℕ) → x ≡ y → found ≡ other → ◌≡◌ {A = HardwareState × Result (Unit {0}) Trap} (x, answered_or fault (is_some found)) (y, answered_or fault (is_some other))
word_written fault x y found other e f = λ i. (e i, answered_or fault (is_some (f i)))

read_word_blind : (pa : ℕ) → Blind (read_bus_word pa) Any
unfolding read_bus_word
read_word_blind pa =
    record {
      same = λ earlier turn h. word_read _ _ _ _ _ (read pa earlier h) (seen turn pa earlier h);
      gives = λ turn h. shown_fine (see turn pa h) _ (fine_fault BusError turn h);
    }

write_word_blind : (pa word : ℕ) → Blind (write_bus_word pa word) Any
unfolding write_bus_word answers
write_word_blind pa word =
    record {
      same = λ earlier turn h. word_written _ _ _ _ _ (written turn pa word earlier h) (seen turn pa earlier h);
      gives = λ turn h. answered_fine (is_some (see turn pa h)) _ (fine_fault BusError turn h);
    }

read_byte_blind : (pa : ℕ) → Blind (read_bus_byte pa) Any
unfolding read_bus_byte
read_byte_blind pa = then_blind (read_word_blind (even pa)) (λ word _. pure_blind (byte_at pa word) tt)

replaced : (fault : Trap) (found : Option ℕ) (turn pa byte : ℕ) (earlier : List ℕ) (h : HardwareState)
    → replaced_or fault found (λ word. change turn (even pa) (with_byte pa byte word) (behind earlier h)) (behind earlier h)
    ≡ (behind earlier (replaced_or fault found (λ word. change turn (even pa) (with_byte pa byte word) h) h).0, (replaced_or fault found (λ word. change turn (even pa) (with_byte pa byte word) h) h).1)
replaced fault None turn pa byte earlier h = refl
replaced fault (Some word) turn pa byte earlier h = ap done (written turn (even pa) (with_byte pa byte word) earlier h)

replaced_fine : (fault : Trap) (found : Option ℕ) (new : ℕ → HardwareState) (h : HardwareState) → Tame fault → Fine (Any {A = Unit {0}}) (replaced_or fault found new h).1
replaced_fine fault (Some word) new h tame = tt
replaced_fine fault None new h tame = tame

-- half of a word is replaced, but the high byte of the transmitter buffer
abbrev byte_put : Trap → ℕ → ℕ → ℕ → HardwareState → HardwareState × Result (Unit {0}) Trap
byte_put fault pa byte turn h =
    cond (pa == transmitter_high_byte) (h, Ok tt) (replaced_or fault (see turn (even pa) h) (λ word. change turn (even pa) (with_byte pa byte word) h) h)

byte_same : (fault : Trap) (pa byte turn : ℕ) (earlier : List ℕ) (h : HardwareState) → byte_put fault pa byte turn (behind earlier h) ≡ (behind earlier (byte_put fault pa byte turn h).0, (byte_put fault pa byte turn h).1)
byte_same fault pa byte turn earlier h =
    either_gives (pa == transmitter_high_byte) earlier (h, Ok tt) (replaced_or fault (see turn (even pa) h) (λ word. change turn (even pa) (with_byte pa byte word) h) h) (behind earlier h, Ok tt)
    (replaced_or fault (see turn (even pa) (behind earlier h)) (λ word. change turn (even pa) (with_byte pa byte word) (behind earlier h)) (behind earlier h)) refl
    (ap (λ (o : Option ℕ). replaced_or fault o (λ word. change turn (even pa) (with_byte pa byte word) (behind earlier h)) (behind earlier h)) (seen turn (even pa) earlier h)
    ∙ replaced fault (see turn (even pa) h) turn pa byte earlier h)

byte_fine : (fault : Trap) (pa byte turn : ℕ) (h : HardwareState) → Tame fault → Fine (Any {A = Unit {0}}) (byte_put fault pa byte turn h).1
byte_fine fault pa byte turn h tame =
    by_cases (λ (p : HardwareState × Result (Unit {0}) Trap). Fine (Any {A = Unit {0}}) p.1) (pa == transmitter_high_byte) (h, Ok tt) _ tt
    (replaced_fine fault (see turn (even pa) h) _ h tame)

write_byte_blind : (pa byte : ℕ) → Blind (write_bus_byte pa byte) Any
unfolding write_bus_byte
write_byte_blind pa byte =
    record {
      same = λ earlier turn h. byte_same _ pa byte turn earlier h;
      gives = λ turn h. byte_fine _ pa byte turn h (fine_fault BusError turn h);
    }

address_fine : (found : Result ℕ Abort) (turn : ℕ) (h : HardwareState) → Fine (Any {A = ℕ}) (address_or_trap found)
address_fine (Ok pa) turn h = tt
address_fine (Err abort) turn h = fine_fault MemoryManagement turn h

translated_blind : (kind : Kind) (mode : Mode) (va : ℕ) → Blind (translated kind mode va) Any
unfolding translated
translated_blind kind mode va =
    record { same = λ earlier turn h. refl; gives = λ turn h. address_fine (translate_of mode va kind h.management).1 turn h }

reached_blind : (kind : Kind) (mode : Mode) (size : Size) (va : ℕ) → Blind (reached kind mode size va) Any
unfolding reached
reached_blind kind mode Word va = either_blind (va % 2 == 1) (fail BusError) (translated kind mode va) (fail_blind BusError) (translated_blind kind mode va)
reached_blind kind mode Byte va = translated_blind kind mode va

pub read_in_blind : (mode : Mode) (size : Size) (va : ℕ) → Blind (read_in mode size va) Any
unfolding read_in
read_in_blind mode Word va = then_blind (reached_blind Read mode Word va) (λ pa _. read_word_blind pa)
read_in_blind mode Byte va = then_blind (reached_blind Read mode Byte va) (λ pa _. read_byte_blind pa)

pub write_in_blind : (mode : Mode) (size : Size) (va value : ℕ) → Blind (write_in mode size va value) Any
unfolding write_in
write_in_blind mode Word va word = then_blind (reached_blind Write mode Word va) (λ pa _. write_word_blind pa word)
write_in_blind mode Byte va byte = then_blind (reached_blind Write mode Byte va) (λ pa _. write_byte_blind pa byte)

pub read_blind : (size : Size) (va : ℕ) → Blind (read_at size va) Any
unfolding read_at
read_blind size va =
    record {
      same = λ earlier turn h. (read_in_blind h.processor.status.current size va).same earlier turn h;
      gives = λ turn h. (read_in_blind h.processor.status.current size va).gives turn h;
    }

pub write_blind : (size : Size) (va value : ℕ) → Blind (write_at size va value) Any
unfolding write_at
write_blind size va value =
    record {
      same = λ earlier turn h. (write_in_blind h.processor.status.current size va value).same earlier turn h;
      gives = λ turn h. (write_in_blind h.processor.status.current size va value).gives turn h;
    }

-- REGISTERS AND CODES

pub get_blind : (r : registers.Register) → Blind (get r) Any
unfolding register_of
get_blind r = gets_blind (register_of r) (λ earlier h. refl) (λ h. tt)

pub set_blind : (r : registers.Register) (value : ℕ) → Blind (set r value) Any
unfolding set_register_of
set_blind r value = change_blind (set_register_of r value) (λ earlier h. refl)

pub step_up_blind : (r : registers.Register) (n : ℕ) → Blind (step_up r n) Any
unfolding step_up set_register_of register_of
step_up_blind r n = record { same = λ earlier turn h. refl; gives = λ turn h. tt }

checked : (zone : Zone) (address : ℕ) (earlier : List ℕ) (h : HardwareState) → check_stack_limit zone address (behind earlier h) ≡ (behind earlier (check_stack_limit zone address h).0, (check_stack_limit zone address h).1)
checked Clear address earlier h = refl
checked Yellow address earlier h = refl
checked Red address earlier h = refl

checked_fine : (zone : Zone) (address : ℕ) (h : HardwareState) → Fine (Any {A = ℕ}) (check_stack_limit zone address h).1
unfolding trapped
checked_fine Clear address h = tt
checked_fine Yellow address h = tt
checked_fine Red address h = λ serves turn earlier x. serves.fatal x.processor.registers.pc x.processor.status turn earlier x

pub step_down_blind : (r : registers.Register) (n : ℕ) → Blind (step_down r n) Any
unfolding step_down set_register_of register_of
step_down_blind r n =
    record {
      same = λ earlier turn h. checked (zone_in h.processor.status.current r h.processor.stack_limit _) _ earlier _;
      gives = λ turn h. checked_fine (zone_in h.processor.status.current r h.processor.stack_limit _) _ _;
    }

pub set_codes_blind : (f : Codes → Codes) → Blind (set_codes f) Any
unfolding set_codes_of codes_of
set_codes_blind f = record { same = λ earlier turn h. refl; gives = λ turn h. tt }

pub set_codes_for_blind : {A : Type 0} (f : Codes → A × Codes) → Blind (set_codes_for f) Any
unfolding set_codes_of codes_of
set_codes_for_blind f = record { same = λ earlier turn h. refl; gives = λ turn h. tt }
