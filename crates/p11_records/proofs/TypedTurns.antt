-- Characters that were typed and that nobody took are nothing to a turn: the machine goes on as without them, and types
-- behind them.
use Rattle.std.proofs.Common.{◌≡◌, refl, ap, ◌∙◌, ℕ, zero, suc, ◌+◌, ◌%◌, ◌&&◌, Bool, cond, List, [], ◌∷◌, ◌++◌, append_assoc, append-nil, arith, Option, Some, None, Result, Ok, Err}
use Rattle.std.specs.Prelude.{is_ok}
use Rattle.p11_decode.specs.Table.{op_of}
use Rattle.p11_decode.specs.declared.operand.Register.TheVariants.{Sp, Pc}
use Rattle.p11_decode.specs.declared.operand.Size.TheVariants.{Word}
use Rattle.p11_psw.specs.Sources.{status_from_vector}
use Rattle.p11_psw.specs.Status.{status_of, status_word}
use Rattle.p11_psw.specs.Vectors.{vector_address}
use Rattle.p11_psw.specs.declared.mode.Mode.{Mode}
use Rattle.p11_psw.specs.declared.mode.Mode.TheVariants.{Kernel}
use Rattle.p11_psw.specs.declared.priority.Priority.{Priority}
use Rattle.p11_psw.specs.declared.psw.Psw.{Psw}
use Rattle.p11_psw.specs.declared.vector.Vector.{Vector}
use Rattle.p11_psw.specs.declared.vector.Vector.TheVariants.{BusError, Breakpoint}
use Rattle.p11_dl11.specs.LineEvents.{line_after_turn}
use Rattle.p11_dl11.specs.TransmitterEvents.{typed_in}
use Rattle.p11_unibus.specs.Acts.{with_typed, bus_after_clock, bus_after_line, bus_after_disk, bus_after_turn}
use Rattle.p11_unibus.specs.Events.{bus_after_take}
use Rattle.p11_unibus.specs.Requests.{bus_after_service, grant_of, granted, highest_request, row}
use Rattle.p11_unibus.specs.State.{BusState}
use Rattle.p11_unibus.specs.declared.source.Source.{Source}
use Rattle.p11_unibus.specs.declared.source.Source.TheVariants.{Clock, Disk, Receiver, Transmitter}
use Rattle.p11_cpu.specs.Instructions.{may_trace}
use Rattle.p11_cpu.specs.OperatorDevices.{take_typed_of}
use Rattle.p11_cpu.specs.ProcessorControl.{resumed, halted}
use Rattle.p11_cpu.specs.Registers.{set_register_in, stack_pointer}
use Rattle.p11_cpu.specs.Services.{entry_of, fatal_entry_of, fatal_of, push_in, service_of, woken}
use Rattle.p11_cpu.specs.State.{HardwareState, State, hardware_of, with_hardware}
use Rattle.p11_cpu.specs.Step.{change}
use Rattle.p11_cpu.specs.Turns.{after_trace, after_turns, completed, decoded_at_pc, devices_acted, hardware_turn_of, instruction_of, instruction_run, marks_cleared, pc_taken, request_granted, served_or_run, traps_served, turn_of, yellow_zone_trap}
use Rattle.p11_cpu.specs.Words.{minus}
use Rattle.p11_records.proofs.TypedInstructions.{execute_blind, resumed_behind, halted_behind}
use Rattle.p11_records.proofs.TypedSteps.{Any, Blind, Fine, Serves, Trap, behind, bus_behind, by_cases, then_blind, pure_blind, gets_blind, change_blind, either_behind, either_gives, read_in_blind, write_in_blind, read_blind, get_blind, step_up_blind}

-- THE SERVICE OF A VECTOR

push_blind : (mode : Mode) (word : ℕ) → Blind (push_in mode word) Any
unfolding push_in
push_blind mode word =
    then_blind (gets_blind {P = Any} (λ h. minus (stack_pointer mode h.processor.registers) 2) (λ earlier h. refl) (λ h. tt))
    (λ top _. then_blind (change_blind (set_register_in mode Sp top) (λ earlier h. refl)) (λ _ _. write_in_blind mode Word top word))

resumes : (pc : ℕ) (status : Psw) → Blind (change (resumed pc status)) Any
resumes pc status = change_blind (resumed pc status) (λ earlier h. resumed_behind pc earlier h status)

entry_blind : (vector : Vector) (pc : ℕ) (status : Psw) → Blind (entry_of vector pc status) Any
unfolding entry_of
entry_blind vector pc status =
    then_blind (read_in_blind Kernel Word (vector_address vector)) (λ new_pc _. then_blind (read_in_blind Kernel Word (vector_address vector + 2))
    (λ word _. then_blind (push_blind (status_from_vector status word).current (status_word status))
    (λ _ _. then_blind (push_blind (status_from_vector status word).current pc)
    (λ _ _. resumes new_pc (status_from_vector status word)))))

fatal_entry_blind : (pc : ℕ) (status : Psw) → Blind (fatal_entry_of pc status) Any
unfolding fatal_entry_of
fatal_entry_blind pc status =
    then_blind (change_blind (set_register_in Kernel Sp 4) (λ earlier h. refl)) (λ _ _. then_blind (read_in_blind Kernel Word 4)
    (λ new_pc _. then_blind (read_in_blind Kernel Word 6) (λ word _. then_blind (push_blind Kernel (status_word status))
    (λ _ _. then_blind (push_blind Kernel pc) (λ _ _. resumes new_pc (status_of (word % 256)))))))

-- what is made of a service that was tried
fatal_end : ℕ → Psw → HardwareState × Result (Unit {0}) Trap → HardwareState
fatal_end pc status p = cond (is_ok p.1) p.0 (halted (resumed pc status p.0))

fatal_ends : (pc : ℕ) (status : Psw) (earlier : List ℕ) (p : HardwareState × Result (Unit {0}) Trap) → fatal_end pc status (behind earlier p.0, p.1) ≡ behind earlier (fatal_end pc status p)
unfolding fatal_end
fatal_ends pc status earlier p =
    either_behind (is_ok p.1) earlier p.0 _ _ _ refl (ap halted (resumed_behind pc earlier p.0 status) ∙ halted_behind earlier (resumed pc status p.0))

fatal_behind : (pc : ℕ) (status : Psw) (turn : ℕ) (earlier : List ℕ) (h : HardwareState) → fatal_of pc status turn (behind earlier h) ≡ behind earlier (fatal_of pc status turn h)
unfolding fatal_of fatal_end
fatal_behind pc status turn earlier h =
    ap (fatal_end pc status) ((fatal_entry_blind pc status).same earlier turn h) ∙ fatal_ends pc status earlier (fatal_entry_of pc status turn h)

-- a state with what comes of it, behind earlier characters
abbrev Behind : {A : Type 0} → List ℕ → HardwareState × A → HardwareState × A → Type 0
Behind earlier p q = q ≡ (behind earlier p.0, p.1)

-- what is made of the entry that a service tries
abbrev service_end : {S : Type 0} → S → S → ℕ → Psw → ℕ → HardwareState × Result (Unit {0}) Trap → HardwareState × S
service_end made fatal pc status turn p = cond (is_ok p.1) (p.0, made) (fatal_of pc status turn p.0, fatal)

service_ends : {S : Type 0} (made fatal : S) (pc : ℕ) (status : Psw) (turn : ℕ) (earlier : List ℕ) (p q : HardwareState × Result (Unit {0}) Trap) → Behind earlier p q → Behind earlier (service_end made fatal pc status turn p) (service_end made fatal pc status turn q)
service_ends made fatal pc status turn earlier p q e =
    ap (service_end made fatal pc status turn) e
    ∙ either_gives (is_ok p.1) earlier (p.0, made) (fatal_of pc status turn p.0, fatal) (behind earlier p.0, made) (fatal_of pc status turn (behind earlier p.0), fatal) refl (ap (λ (x : HardwareState). (x, fatal)) (fatal_behind pc status turn earlier p.0))

service_behind : (vector : Vector) (turn : ℕ) (earlier : List ℕ) (h : HardwareState) → Behind earlier (service_of vector turn h) (service_of vector turn (behind earlier h))
unfolding service_of woken
service_behind vector turn earlier h =
    service_ends _ _ h.processor.registers.pc h.processor.status turn earlier _ _ ((entry_blind vector h.processor.registers.pc h.processor.status).same earlier turn (woken h))

serves : Serves
serves = record { service = service_behind; fatal = fatal_behind }

-- THE DEVICES

types_behind : (earlier typed : List ℕ) (found : Option ℕ) → with_typed (earlier ++ typed) found ≡ earlier ++ with_typed typed found
unfolding with_typed
types_behind earlier typed None = refl
types_behind earlier typed (Some character) = append_assoc earlier typed (character ∷ [])

line_behind : (turn : ℕ) (earlier : List ℕ) (b : BusState) → bus_after_line turn (bus_behind earlier b) ≡ bus_behind earlier (bus_after_line turn b)
unfolding bus_after_line
line_behind turn earlier b =
    ap (λ (t : List ℕ). record b { line = line_after_turn turn b.line; typed = t }) (types_behind earlier b.typed (typed_in turn b.line.transmitter))

clock_behind : (turn : ℕ) (earlier : List ℕ) (b : BusState) → bus_after_clock turn (bus_behind earlier b) ≡ bus_behind earlier (bus_after_clock turn b)
unfolding bus_after_clock
clock_behind turn earlier b = refl

disk_behind : (turn : ℕ) (earlier : List ℕ) (b : BusState) → bus_after_disk turn (bus_behind earlier b) ≡ bus_behind earlier (bus_after_disk turn b)
unfolding bus_after_disk
disk_behind turn earlier b = refl

acts_behind : (turn : ℕ) (earlier : List ℕ) (b : BusState) → bus_after_turn turn (bus_behind earlier b) ≡ bus_behind earlier (bus_after_turn turn b)
unfolding bus_after_turn
acts_behind turn earlier b =
    ap (λ x. bus_after_disk turn (bus_after_line turn x)) (clock_behind turn earlier b)
    ∙ ap (bus_after_disk turn) (line_behind turn earlier (bus_after_clock turn b))
    ∙ disk_behind turn earlier (bus_after_line turn (bus_after_clock turn b))

devices_behind : (turn : ℕ) (earlier : List ℕ) (h : HardwareState) → devices_acted turn (behind earlier h) ≡ behind earlier (devices_acted turn h)
unfolding devices_acted
devices_behind turn earlier h = ap (λ (b : BusState). record h { bus = b }) (acts_behind turn earlier h.bus)

served : (source : Source) (earlier : List ℕ) (b : BusState) → bus_after_service source (bus_behind earlier b) ≡ bus_behind earlier (bus_after_service source b)
unfolding bus_after_service
served Clock earlier b = refl
served Disk earlier b = refl
served Receiver earlier b = refl
served Transmitter earlier b = refl

granted_behind : (found : Option Source) (earlier : List ℕ) (b : BusState) → granted found (bus_behind earlier b) ≡ (bus_behind earlier (granted found b).0, (granted found b).1)
granted_behind (Some source) earlier b = ap (λ (x : BusState). (x, Some (row source).vector)) (served source earlier b)
granted_behind None earlier b = refl

pub same_request : (priority : Priority) (earlier : List ℕ) (b : BusState) → highest_request priority (bus_behind earlier b) ≡ highest_request priority b
unfolding highest_request
same_request priority earlier b = refl

hardware_with : HardwareState → BusState × Option Vector → HardwareState × Option Vector
hardware_with h g = (record h { bus = g.0 }, g.1)

grant_behind : (earlier : List ℕ) (h : HardwareState) → Behind earlier (request_granted h) (request_granted (behind earlier h))
unfolding request_granted grant_of hardware_with
grant_behind earlier h =
    let priority = h.processor.status.priority in
    ap (hardware_with h)
    (ap (λ (o : Option Source). granted o (bus_behind earlier h.bus)) (same_request priority earlier h.bus) ∙ granted_behind (highest_request priority h.bus) earlier h.bus)

-- THE INSTRUCTION

instruction_blind : Blind instruction_of Any
unfolding instruction_of decoded_at_pc pc_taken
instruction_blind =
    then_blind (change_blind pc_taken (λ earlier h. refl)) (λ _ _. then_blind
    (then_blind (get_blind Pc) (λ pc _. then_blind (read_blind Word pc) (λ word _. then_blind (step_up_blind Pc 2) (λ _ _. pure_blind {P = Any} (op_of word) tt))))
    (λ op _. then_blind (execute_blind op) (λ _ _. pure_blind {P = Any} (may_trace op) tt)))

yellow_behind : (turn : ℕ) (earlier : List ℕ) (h : HardwareState) → yellow_zone_trap turn (behind earlier h) ≡ behind earlier (yellow_zone_trap turn h)
unfolding yellow_zone_trap
yellow_behind turn earlier h =
    either_behind h.yellow_zone earlier (service_of BusError turn h).0 h _ _ (ap (λ p. p.0) (service_behind BusError turn earlier h)) refl

traced : (turn : ℕ) (earlier : List ℕ) (h : HardwareState) → after_trace turn (behind earlier (service_of Breakpoint turn h).0, (service_of Breakpoint turn h).1) ≡ behind earlier (after_trace turn (service_of Breakpoint turn h))
unfolding service_of
traced turn earlier h =
    let entered = entry_of Breakpoint h.processor.registers.pc h.processor.status turn (woken h) in
    by_cases (λ p. after_trace turn (behind earlier p.0, p.1) ≡ behind earlier (after_trace turn p)) (is_ok entered.1) _ _ (yellow_behind turn earlier entered.0) refl

completed_behind : (traces : Bool) (turn : ℕ) (earlier : List ℕ) (h : HardwareState) → completed traces turn (behind earlier h) ≡ behind earlier (completed traces turn h)
unfolding completed
completed_behind traces turn earlier h =
    either_behind (traces && h.processor.status.trace) earlier (after_trace turn (service_of Breakpoint turn h)) (yellow_zone_trap turn h) _ _
    (ap (after_trace turn) (service_behind Breakpoint turn earlier h) ∙ traced turn earlier h)
    (yellow_behind turn earlier h)

served_traps : (turn : ℕ) (earlier : List ℕ) (p : HardwareState × Result Bool Trap) → Fine Any p.1 → traps_served turn (behind earlier p.0, p.1) ≡ behind earlier (traps_served turn p)
served_traps turn earlier (h, Ok traces) fine = completed_behind traces turn earlier h
served_traps turn earlier (h, Err trap) fine = fine serves turn earlier h

run_behind : (turn : ℕ) (earlier : List ℕ) (h : HardwareState) → instruction_run turn (behind earlier h) ≡ behind earlier (instruction_run turn h)
unfolding instruction_run
run_behind turn earlier h =
    either_behind h.processor.waiting earlier h (traps_served turn (instruction_of turn h)) _ _ refl
    (ap (traps_served turn) (instruction_blind.same earlier turn h) ∙ served_traps turn earlier (instruction_of turn h) (instruction_blind.gives turn h))

-- THE TURN

granted_serves : (turn : ℕ) (earlier : List ℕ) (p : HardwareState × Option Vector) → served_or_run turn (behind earlier p.0, p.1) ≡ behind earlier (served_or_run turn p)
granted_serves turn earlier (h, Some vector) = ap (λ p. p.0) (service_behind vector turn earlier h)
granted_serves turn earlier (h, None) = run_behind turn earlier h

hardware_behind : (turn : ℕ) (earlier : List ℕ) (h : HardwareState) → hardware_turn_of turn (behind earlier h) ≡ behind earlier (hardware_turn_of turn h)
unfolding hardware_turn_of marks_cleared
hardware_behind turn earlier h =
    let acted = devices_acted turn (marks_cleared h) in
    ap (λ x. served_or_run turn (request_granted x)) (devices_behind turn earlier (marks_cleared h))
    ∙ ap (served_or_run turn) (grant_behind earlier acted) ∙ granted_serves turn earlier (request_granted acted)

-- a machine on which these characters were typed before its own
abbrev pub typed_before : List ℕ → State → State
typed_before earlier s = record s { bus = bus_behind earlier s.bus }

pub turn_behind : (earlier : List ℕ) (s : State) → (turn_of (typed_before earlier s)).0 ≡ typed_before earlier (turn_of s).0
unfolding turn_of
turn_behind earlier s =
    ap (λ (h : HardwareState). with_hardware h (record s { turns = s.turns + 1 })) (hardware_behind (s.turns + 1) earlier (hardware_of s))

pub turns_behind : (k : ℕ) (earlier : List ℕ) (s : State) → after_turns k (typed_before earlier s) ≡ typed_before earlier (after_turns k s)
unfolding after_turns
turns_behind zero earlier s = refl
turns_behind (suc k) earlier s = ap (λ x. (turn_of x).0) (turns_behind k earlier s) ∙ turn_behind earlier (after_turns k s)

-- a machine is one whose characters were taken, behind them
pub taken_and_back : (s : State) → typed_before s.bus.typed (take_typed_of s) ≡ s
unfolding take_typed_of bus_after_take
taken_and_back s = ap (λ (t : List ℕ). record s { bus = record s.bus { typed = t } }) (append-nil s.bus.typed)

pub turns_count : (k : ℕ) (s : State) → (after_turns k s).turns ≡ k + s.turns
unfolding after_turns turn_of
turns_count zero s = omega arith
turns_count (suc k) s = ap (λ n. n + 1) (turns_count k s) ∙ omega arith
