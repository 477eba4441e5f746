-- A turn of a user program that is kept off the I/O page, in which no service begins.
use Rattle.std.proofs.Common.{◌≡◌, ◌∙◌, ◌+◌, ◌<◌, ℕ, IfOk, IsOkAnd, List, Bool, true, false, not, ◌&&◌, ◌||◌, cond, refl, ap, map, subst, sym, length}
use Rattle.std.proofs.lemmas.List.{length-map}
use Rattle.std.specs.Prelude.{Option, Some, None, Result, Ok, Err}
use Rattle.p11_decode.specs.Table.{op_of}
use Rattle.p11_decode.specs.declared.operand.Register.TheVariants.{Pc}
use Rattle.p11_decode.specs.declared.operand.Size.TheVariants.{Word}
use Rattle.p11_kt11.specs.IoPage.{UserStaysOffIoPage}
use Rattle.p11_kt11.specs.Management.{Management, management_after_begin_instruction, page_at}
use Rattle.p11_kt11.specs.Page.{unwritten_page}
use Rattle.p11_kt11.specs.Reference.{any_cause}
use Rattle.p11_kt11.specs.Register.{space_of}
use Rattle.p11_kt11.specs.Translation.{place}
use Rattle.p11_kt11.specs.declared.page.Page.{Page}
use Rattle.p11_kt11.specs.declared.reference.Abort.{Abort}
use Rattle.p11_kt11.specs.declared.reference.Kind.TheVariants.{Write}
use Rattle.p11_kt11.specs.declared.status.Status.{Status}
use Rattle.p11_psw.specs.declared.mode.Mode.TheVariants.{User}
use Rattle.p11_psw.specs.declared.priority.Priority.{Priority}
use Rattle.p11_psw.specs.declared.vector.Vector.{Vector}
use Rattle.p11_unibus.specs.Bytes.{even}
use Rattle.p11_unibus.specs.Requests.{grant_of, granted, highest_request}
use Rattle.p11_unibus.specs.State.{BusState}
use Rattle.p11_unibus.specs.declared.source.Source.{Source}
use Rattle.p11_cpu.specs.declared.trap.Trap.{Trap}
use Rattle.p11_cpu.specs.Confinement.{IsConfining, IsReached, acted_next, after_devices, begins_service, granted_next, is_followed, serves}
use Rattle.p11_cpu.specs.Laws.Confined.{UserTurnIsConfined, UserTurnKeepsConfining}
use Rattle.p11_cpu.specs.Instructions.{may_trace}
use Rattle.p11_cpu.specs.Registers.{register_of}
use Rattle.p11_cpu.specs.Kept.OnBus.{with_bus_of}
use Rattle.p11_cpu.specs.State.{HardwareState, Processor, State, hardware_of}
use Rattle.p11_cpu.specs.Turns.{completed, decoded_at_pc, devices_acted, hardware_turn_of, instruction_of, instruction_run, marks_cleared, pc_taken, request_granted, served_or_run, traps_served, turn_of, yellow_zone_trap}
use Rattle.p11_cpu.proofs.Confined.{Confines, IfGives, Kept, Laws, SameBus, SameManagement, SameProcessor, Within, change_kept, pure_kept, gets_kept, then_kept}
use Rattle.p11_cpu.proofs.ConfinedInstructions.{execute_kept, step_up_kept}
use Rattle.p11_cpu.proofs.ConfinedReferences.{read_kept}

-- THE INSTRUCTION

-- SR2 takes PC, and that is all
begun : (pc : ℕ) (m n : Management) (b : Bool) → SameManagement m n → SameManagement m (cond b n (record n { instruction = pc }))
unfolding place page_at space_of
begun pc m n true s = s
begun pc m n false s = record { kernel = s.kernel; status = s.status; pages = s.pages; places = s.places }

pc_within : (a h : HardwareState) → Within a h → Within a (pc_taken h)
unfolding pc_taken management_after_begin_instruction
pc_within a h w =
    record {
      laws = w.laws;
      confines = w.confines;
      processor = w.processor;
      management = begun h.processor.registers.pc a.management h.management (any_cause h.management.status.causes) w.management;
      bus = w.bus;
    }

fetched_kept : Kept decoded_at_pc
unfolding decoded_at_pc
fetched_kept =
    then_kept (gets_kept (register_of Pc)) (λ pc. then_kept (read_kept Word pc)
    (λ word. then_kept (step_up_kept Pc 2) (λ _. pure_kept (op_of word))))

instruction_kept : Kept instruction_of
unfolding instruction_of
instruction_kept =
    then_kept (change_kept pc_taken pc_within) (λ _. then_kept fetched_kept
    (λ op. then_kept (execute_kept op) (λ _. pure_kept (may_trace op))))

-- WHAT FOLLOWS IT: nothing

nothing_completed : (b yellow : Bool) (x y h : HardwareState) → (b || yellow) ≡ false → cond b x (cond yellow y h) ≡ h
nothing_completed true yellow x y h e = cc e
nothing_completed false true x y h e = cc e
nothing_completed false false x y h e = refl

nothing_follows : (turn : ℕ) (a : HardwareState) (p : HardwareState × Result Bool Trap) → is_followed p ≡ false → IfGives (Within a) p → Within a (traps_served turn p)
unfolding completed yellow_zone_trap
nothing_follows turn a (h, Ok traces) e w =
    subst (λ (x : HardwareState). Within a x) (sym (nothing_completed (traces && h.processor.status.trace) h.yellow_zone _ _ h e)) w
nothing_follows turn a (h, Err trap) e w = cc e

run_alone : (waits : Bool) (turn : ℕ) (a h : HardwareState) → (not waits && is_followed (instruction_of turn h)) ≡ false → Within a h → Within a (cond waits h (traps_served turn (instruction_of turn h)))
run_alone true turn a h e w = w
run_alone false turn a h e w = nothing_follows turn a (instruction_of turn h) e (instruction_kept.keeps a turn h w)

-- a request that isn't there drops nothing
not_granted : (source : Option Source) (b : BusState) → (granted source b).1 ≡ None → (granted source b).0 ≡ b
not_granted (Some source) b e = cc e
not_granted None b e = refl

no_grant : (priority : Priority) (b : BusState) → (grant_of priority b).1 ≡ None → (grant_of priority b).0 ≡ b
unfolding grant_of
no_grant priority b e = not_granted (highest_request priority b) b e

-- what is left of the turn once the devices have acted
rest_within : (turn : ℕ) (a : HardwareState) (g : BusState × Option Vector) → serves turn (with_bus_of g a) ≡ false → (g.1 ≡ None → g.0 ≡ a.bus) → Within a a → Within a (served_or_run turn (with_bus_of g a))
unfolding instruction_run
rest_within turn a (b, Some vector) e same w = cc e
rest_within turn a (b, None) e same w =
    let bus : SameBus a.management a.bus b = subst (λ (c : BusState). SameBus a.management a.bus c) (sym (same refl)) w.bus in
    let here : Within a (record a { bus = b }) = record { laws = w.laws; confines = w.confines; processor = w.processor; management = w.management; bus = bus } in
    run_alone a.processor.waiting turn a (record a { bus = b }) e here

-- THE TURN

-- nothing has changed yet
at_first : (laws : Laws) (a : HardwareState) → Confines a.management → a.processor.status.current ≡ User → a.processor.status.previous ≡ User → Within a a
at_first laws a confines current previous =
    record {
      laws = laws;
      confines = confines;
      processor = record {
        kernel_sp = refl;
        stack_limit = refl;
        halted = refl;
        current = current;
        previous = previous;
        priority = refl;
      };
      management = record { kernel = refl; status = refl; pages = refl; places = λ va kind. refl };
      bus = record { devices = refl; holds = λ pa. refl; words = λ pa there out. refl };
    }

hardware_within : (turn : ℕ) (a : HardwareState) → serves turn (request_granted a) ≡ false → Within a a → Within a (served_or_run turn (request_granted a))
unfolding request_granted
hardware_within turn a e w =
    rest_within turn a (grant_of a.processor.status.priority a.bus) e (no_grant a.processor.status.priority a.bus) w

-- the processor with each field that stays written out
processor_is : (p q : Processor) → SameProcessor p q → p.status.current ≡ User → p.status.previous ≡ User → q ≡ record p {
  registers = record q.registers { kernel_sp = p.registers.kernel_sp };
  status = record q.status { current = p.status.current; previous = p.status.previous; priority = p.status.priority };
  waiting = q.waiting;
}
processor_is p q s current previous =
    let now = s.current ∙ sym current in
    let before = s.previous ∙ sym previous in
    λ i. record q {
      registers = record q.registers { kernel_sp = s.kernel_sp i };
      status = record q.status { current = now i; previous = before i; priority = s.priority i };
      stack_limit = s.stack_limit i;
      halted = s.halted i;
    }

management_is : (m n : Management) → SameManagement m n → n ≡ record m { user = n.user; instruction = n.instruction }
management_is m n s = λ i. record n { kernel = s.kernel i; status = s.status i }

-- the hardware after the turn
turn_within : Laws → (s : State) → length s.management.user ≡ 8 → IsConfining s → begins_service s ≡ false → Within (acted_next s) (hardware_turn_of (s.turns + 1) (hardware_of s))
unfolding hardware_turn_of begins_service granted_next acted_next devices_acted marks_cleared
turn_within laws s eight confining none =
    hardware_within (s.turns + 1) (acted_next s) none
    (at_first laws (acted_next s) (record { mapped = confining.mapped; eight = eight; off_io_page = confining.off_io_page })
    confining.current confining.previous)

pub confined : Laws → (s : State) → length s.management.user ≡ 8 → UserTurnIsConfined s (turn_of s).0
unfolding turn_of after_devices acted_next devices_acted marks_cleared
confined laws s eight confining none =
    let w = turn_within laws s eight confining none in
    record {
      turns = refl;
      processor = processor_is _ _ w.processor confining.current confining.previous;
      management = management_is _ _ w.management;
      pages = w.management.pages;
      bus = w.bus.devices;
      holds = w.bus.holds;
      words = w.bus.words;
    }

-- with every reference of user mode where it was, it is kept off the I/O page, and its reach is the same
off_still : (m n : Management) → SameManagement m n → UserStaysOffIoPage m → UserStaysOffIoPage n
off_still m n s off va kind below = subst (λ (p : Result ℕ Abort). IfOk p (λ q. q < 0o760000)) (sym (s.places va kind)) (off va kind below)

reached_by : (m n : Management) (pa : ℕ) → ((va : ℕ) → place User va Write n ≡ place User va Write m) → IsReached n pa → IsReached m pa
reached_by m n pa same r = (r.0, r.1, subst (λ (p : Result ℕ Abort). IsOkAnd p (λ q. even q ≡ pa)) (same r.0) r.2)

as_many : (pages others : List Page) → map unwritten_page pages ≡ map unwritten_page others → length pages ≡ length others
as_many pages others e = sym (length-map pages unwritten_page) ∙ ap length e ∙ length-map others unwritten_page

pub confines_still : Laws → (s : State) → length s.management.user ≡ 8 → UserTurnKeepsConfining s (turn_of s).0
unfolding turn_of acted_next devices_acted marks_cleared
confines_still laws s eight confining none =
    let w = turn_within laws s eight confining none in
    record {
      confining = record {
        mapped = ap (λ (t : Status). t.enabled) w.management.status ∙ confining.mapped;
        current = w.processor.current;
        previous = w.processor.previous;
        off_io_page = off_still s.management _ w.management confining.off_io_page;
      };
      reach = λ pa. (reached_by s.management _ pa (λ va. w.management.places va Write), reached_by _ s.management pa (λ va. sym (w.management.places va Write)));
      pages = as_many _ s.management.user w.management.pages;
    }
