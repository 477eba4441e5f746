-- No command but a run types a character or takes one.
use Rattle.std.proofs.Common.{◌≡◌, ℕ, zero, suc, ◌+◌, ◌*◌, ◌%◌, nat_lt, Bool, true, false, cond, ◌==◌, if◌then◌else◌, List, [], ◌∷◌, length, Option, Some, None, Result, Ok, Err, refl, sym, ap, ◌∙◌, arith, inl, inr}
use Rattle.std.specs.Prelude.{nat_le}
use Rattle.std.specs.Option.{option_map_or}
use Rattle.p11_lines.specs.declared.answer.Answer.{Answer}
use Rattle.p11_lines.specs.declared.answer.Answer.TheVariants as answers
use Rattle.p11_lines.specs.declared.fault.Fault.{Fault}
use Rattle.p11_kt11.specs.Registers as management
use Rattle.p11_memory.specs.Memory.{has_word}
use Rattle.p11_rk11.specs.State.{drive_of, drive_count, contents_of, is_busy}
use Rattle.p11_tape.specs.Reading.{Meaning, reading}
use Rattle.p11_tape.specs.declared.fault.TapeFault.{TapeFault}
use Rattle.p11_overlay.specs.Drive.{Contents}
use Rattle.p11_unibus.specs.Bus as bus
use Rattle.p11_unibus.specs.Bus.{register_after_read, register_changed}
use Rattle.p11_unibus.specs.Events.{bus_after_byte, bus_after_init, bus_after_key, bus_after_mount, bus_after_period, bus_after_switches, bus_after_take, bus_after_tick, bus_after_unmount}
use Rattle.p11_unibus.specs.Registers.{register_at}
use Rattle.p11_unibus.specs.State.{BusState}
use Rattle.p11_unibus.specs.declared.register.Register.{Register}
use Rattle.p11_unibus.specs.declared.register.Register.TheVariants.{Clock, Line, Disk, Switches}
use Rattle.p11_cpu.specs.Operator.{console_register, deposit_of, examine_of, put_byte_of, set_reg_of, start_of, started}
use Rattle.p11_cpu.specs.OperatorDevices.{key_of, mount_of, room_of, set_period_of, set_switches_of, take_typed_of, tick_of, unmount_of}
use Rattle.p11_cpu.specs.ProcessorControl.{initialized, resumed}
use Rattle.p11_cpu.specs.References.{after_read, bus_read, bus_written, change, part_at}
use Rattle.p11_cpu.specs.State.{State}
use Rattle.p11_cpu.specs.Turns.{after_turns}
use Rattle.p11_panel.specs.declared.command.Command.{Command}
use Rattle.p11_panel.specs.declared.command.Command.TheVariants as commands
use Rattle.p11_panel.specs.Calls.Runs.{run_command}
use Rattle.p11_panel.specs.Commands.{outcome, CommandStep}
use Rattle.p11_panel.specs.Disks.{mount_fault, on_pack}
use Rattle.p11_panel.specs.Keys.{pressed}
use Rattle.p11_panel.specs.Ranges.{deposit_fault, deposited, examine_fault, examined, reads_at}
use Rattle.p11_panel.specs.Refusals.{unless}
use Rattle.p11_panel.specs.Runs.{step_fault, whole_run}
use Rattle.p11_panel.specs.Tapes.{all_fit, loaded, tape_loaded}
use Rattle.p11_records.proofs.OutcomeLemmas.{is_plain, runs, plain, plain_turns}
use Rattle.p11_records.proofs.RunLemmas.{by_fault, made_by, refused_run}
use Rattle.p11_records.proofs.TypedSteps.{Part, by_cases}

-- THE BUS

either_typed : (c : Bool) (x y : BusState) (typed : List ℕ) → x.typed ≡ typed → y.typed ≡ typed → (cond c x y).typed ≡ typed
either_typed true x y typed e f = e
either_typed false x y typed e f = f

register_read : (r : Register) (b : BusState) → (register_after_read r b).typed ≡ b.typed
unfolding register_after_read
register_read (Clock r) b = refl
register_read (Line r) b = refl
register_read (Disk r) b = refl
register_read Switches b = refl

any_read : (found : Option Register) (b : BusState) → (option_map_or (λ register. register_after_read register b) found b).typed ≡ b.typed
any_read None b = refl
any_read (Some r) b = register_read r b

register_written : (turn : ℕ) (r : Register) (word : ℕ) (b : BusState) → (register_changed turn r word b).typed ≡ b.typed
unfolding register_changed
register_written turn (Clock r) word b = refl
register_written turn (Line r) word b = refl
register_written turn (Disk r) word b = refl
register_written turn Switches word b = refl

any_written : (turn : ℕ) (found : Option Register) (word : ℕ) (b : BusState) → (option_map_or (λ register. register_changed turn register word b) found b).typed ≡ b.typed
any_written turn None word b = refl
any_written turn (Some r) word b = register_written turn r word b

bus_reads : (pa : ℕ) (b : BusState) → (bus.after_read pa b).typed ≡ b.typed
unfolding bus.after_read
bus_reads pa b = either_typed (has_word b.memory pa) b _ b.typed refl (any_read (register_at pa) b)

bus_writes : (turn pa word : ℕ) (b : BusState) → (bus.change turn pa word b).typed ≡ b.typed
unfolding bus.change
bus_writes turn pa word b = either_typed (has_word b.memory pa) _ _ b.typed refl (any_written turn (register_at pa) word b)

reads_at_part : (pa : ℕ) (b : BusState) → (bus_read (part_at pa) pa b).typed ≡ b.typed
unfolding part_at
reads_at_part pa b =
    let P : Part → Type 0 = λ part. (bus_read part pa b).typed ≡ b.typed in
    by_cases P (pa == 0o777776) _ _ refl (by_cases P (pa == 0o777774) _ _ refl (by_cases P (management.answers pa) _ _ refl (bus_reads pa b)))

writes_at_part : (turn pa word : ℕ) (b : BusState) → (bus_written (part_at pa) turn pa word b).typed ≡ b.typed
unfolding part_at
writes_at_part turn pa word b =
    let P : Part → Type 0 = λ part. (bus_written part turn pa word b).typed ≡ b.typed in
    by_cases P (pa == 0o777776) _ _ refl (by_cases P (pa == 0o777774) _ _ refl (by_cases P (management.answers pa) _ _ refl (bus_writes turn pa word b)))

-- WHAT THE OPERATOR DOES

read_stays : (pa : ℕ) (s : State) → (examine_of pa s).0.bus.typed ≡ s.bus.typed
unfolding examine_of after_read
read_stays pa s = reads_at_part pa s.bus

write_stays : (pa word : ℕ) (s : State) → (deposit_of pa word s).bus.typed ≡ s.bus.typed
unfolding deposit_of change
write_stays pa word s = writes_at_part s.turns pa word s.bus

all_read : (address n : ℕ) (s : State) → (reads_at address n s).0.bus.typed ≡ s.bus.typed
unfolding reads_at
all_read address zero s = refl
all_read address (suc n) s = read_stays (address + 2 * n) (reads_at address n s).0 ∙ all_read address n s

all_written : (address : ℕ) (words : List ℕ) (s : State) → (deposited address words s).bus.typed ≡ s.bus.typed
unfolding deposited
all_written address [] s = refl
all_written address (word ∷ words) s = all_written (address + 2) words (deposit_of address word s) ∙ write_stays address word s

byte_stays : (address byte : ℕ) (s : State) → (put_byte_of address byte s).bus.typed ≡ s.bus.typed
unfolding put_byte_of bus_after_byte
byte_stays address byte s = refl

all_loaded : (placed : List (ℕ × ℕ)) (s : State) → (loaded placed s).bus.typed ≡ s.bus.typed
unfolding loaded
all_loaded [] s = refl
all_loaded (byte ∷ placed) s = all_loaded placed (put_byte_of byte.0 byte.1 s) ∙ byte_stays byte.0 byte.1 s

key_stays : (key : ℕ) (s : State) → (key_of key s).0.bus.typed ≡ s.bus.typed
unfolding key_of bus_after_key
key_stays key s = refl

pub pressed_stays : (keys : List ℕ) (s : State) → (pressed keys s).bus.typed ≡ s.bus.typed
unfolding pressed
pressed_stays [] s = refl
pressed_stays (key ∷ keys) s = pressed_stays keys (key_of key s).0 ∙ key_stays key s

started_stays : (address : ℕ) (s : State) → (start_of address s).bus.typed ≡ s.bus.typed
unfolding start_of started resumed initialized bus_after_init
started_stays address s = refl

pub tick_stays : (s : State) → (tick_of s).bus.typed ≡ s.bus.typed
unfolding tick_of bus_after_tick
tick_stays s = refl

-- COMMANDS

abbrev Stays : {A : Type 0} → State → State × A → Type 0
Stays s r = r.0.bus.typed ≡ s.bus.typed

unless_stays : {A : Type 0} (fault : Option Fault) (s : State) (r : State × Answer A) → Stays s r → Stays s (unless fault s r)
unless_stays None s r e = e
unless_stays (Some fault) s r e = refl

if_stays : {A : Type 0} (b : Bool) (s : State) (x y : State × A) → Stays s x → Stays s y → Stays s (if b then x else y)
if_stays true s x y e f = e
if_stays false s x y e f = f

some_stays : {A X : Type 0} (found : Option X) (s : State) (done : X → State × A) (other : State × A) → ((x : X) → Stays s (done x)) → Stays s other → Stays s (option_map_or done found other)
some_stays None s done other e f = f
some_stays (Some x) s done other e f = e x

pack_stays : {A : Type 0} (drive : ℕ) (s : State) (done : Contents → State × Answer A) → ((pack : Contents) → Stays s (done pack)) → Stays s (on_pack drive s done)
pack_stays drive s done e = if_stays (nat_le drive_count drive) s _ _ refl (some_stays (contents_of (drive_of s.bus.disk drive)) s done _ e refl)

tape_stays : (A : Type 0) (tape : Result Meaning TapeFault) (s : State) → Stays s (tape_loaded {A = A} tape s)
tape_stays A (Err fault) s = refl
tape_stays A (Ok tape) s = if_stays {A = Answer A} (all_fit tape.placed s) s (loaded tape.placed s, answers.Tape (length tape.placed) tape.start) _ (all_loaded tape.placed s) refl

examined_stays : (A : Type 0) (address n : ℕ) (s : State) → Stays s (examined {A = A} address n s)
unfolding examined
examined_stays A address n s = all_read address n s

outcome_stays : {A : Type 0} (command : Command A) (s : State) → runs command ≡ false → Stays s (outcome command s)
unfolding mount_of bus_after_mount unmount_of bus_after_unmount set_period_of bus_after_period set_switches_of bus_after_switches set_reg_of
outcome_stays (commands.Mount drive image protect) s e = unless_stays (mount_fault drive image s) s (mount_of drive image protect s, answers.Done) refl
outcome_stays {A} (commands.Unmount drive) s e =
    pack_stays {A = A} drive s (λ pack. if is_busy drive s.bus.disk then _ else (unmount_of drive s, answers.Done)) (λ pack. if_stays {A = Answer A} (is_busy drive s.bus.disk) s _ (unmount_of drive s, answers.Done) refl refl)
outcome_stays (commands.Save drive) s e = pack_stays drive s _ (λ pack. refl)
outcome_stays (commands.Changed drive) s e = pack_stays drive s _ (λ pack. refl)
outcome_stays {A} (commands.Load tape) s e = tape_stays A (reading tape) s
outcome_stays {A} (commands.Examine address n) s e = unless_stays (examine_fault address n s) s (examined address n s) (examined_stays A address n s)
outcome_stays (commands.Deposit address words) s e = unless_stays (deposit_fault address (length words) s) s (deposited address words s, answers.Done) (all_written address words s)
outcome_stays (commands.Start address) s e = if_stays (address % 2 == 1) s _ (start_of address s, answers.Done) refl (started_stays address s)
outcome_stays (commands.Key text) s e = if_stays (nat_lt (room_of s) (length text)) s _ (pressed text s, answers.Done) refl (pressed_stays text s)
outcome_stays commands.Tick s e = tick_stays s
outcome_stays (commands.Clock period) s e = refl
outcome_stays (commands.Switches word) s e = refl
outcome_stays {A} (commands.Set number word) s e = some_stays {A = Answer A} (console_register number) s (λ register. (set_reg_of register word s, answers.Done)) _ (λ register. refl) refl
outcome_stays (commands.Step n) s e = cc
outcome_stays (commands.Continue n) s e = cc
outcome_stays command s e = refl

pub step_stays : {A : Type 0} (command : Command A) (answer : Answer A) (s s' : State) → runs command ≡ false → CommandStep s command answer s' → s'.bus.typed ≡ s.bus.typed
step_stays command answer s s' e (inl same) = ap (λ r. r.0.bus.typed) (sym same) ∙ outcome_stays command s e
step_stays command answer s s' e (inr (inl h)) = ap (λ (x : State). x.bus.typed) h.1.1
step_stays command answer s s' e (inr (inr h)) = absurd (omega (arith, h.1, plain_turns s (outcome command s) (plain command s e)))

-- RUNS

none_left : (s : State) → (take_typed_of s).bus.typed ≡ []
unfolding take_typed_of bus_after_take
none_left s = refl

plain_run : (A : Type 0) (asked : Bool) (n : ℕ) (s : State) (fault : Option Fault) → is_plain (unless {A = A} fault s (whole_run asked n s)).1 ≡ false
unfolding whole_run
plain_run A asked n s None = refl
plain_run A asked n s (Some fault) = refl

-- a run stops, or is refused
pub run_answers : {A : Type 0} (asked : Bool) (n : ℕ) (answer : Answer A) (s s' : State) → CommandStep s (run_command asked n) answer s' → is_plain answer ≡ false
run_answers {A} asked n answer s s' (inl same) = ap (λ r. is_plain r.1) (sym same ∙ by_fault A asked n s (step_fault n s) refl) ∙ plain_run A asked n s (step_fault n s)
run_answers asked n answer s s' (inr (inl h)) = ap is_plain h.1.0
run_answers asked n answer s s' (inr (inr h)) = ap (λ r. is_plain r.1) (sym h.3)

pub run_leaves_none : {A : Type 0} (asked : Bool) (n : ℕ) (answer : Answer A) (s s' : State) → s.bus.typed ≡ [] → CommandStep s (run_command asked n) answer s' → s'.bus.typed ≡ []
run_leaves_none {A} asked n (answers.Stop typed reason turns pc) s s' none h =
    ap (λ (x : State). x.bus.typed) (made_by {A = A} asked n typed reason turns pc s s' h).state ∙ none_left (after_turns turns s)
run_leaves_none {A} asked n (answers.Refused fault) s s' none h = ap (λ (x : State). x.bus.typed) (refused_run A asked n fault s s' h) ∙ none
run_leaves_none asked n answer s s' none h = (let q = run_answers asked n answer s s' h in cc q)
