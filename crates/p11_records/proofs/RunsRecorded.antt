-- A run in slices: what is recorded of it makes it again.
use Rattle.std.proofs.Common.{◌≡◌, ℕ, ◌+◌, ◌-◌, ◌<◌, ◌≤◌, Bool, true, false, nat_lt, if◌then◌else◌, List, [], ◌++◌, append-nil, append_assoc, length, refl, sym, ap, subst, ◌∙◌, arith, inl, inr}
use Rattle.std.specs.Prelude.{nat_le, min, max, codes}
use Rattle.std.proofs.lemmas.Bool.Decides.{nat_tests}
use Rattle.p11_lines.specs.declared.answer.Answer.{Answer}
use Rattle.p11_lines.specs.declared.answer.Answer.TheVariants as answers
use Rattle.p11_lines.specs.declared.answer.StopReason.{StopReason}
use Rattle.p11_lines.specs.declared.answer.StopReason.TheVariants as reasons
use Rattle.p11_lines.specs.declared.fault.Fault.TheVariants.{KeysFull}
use Rattle.p11_lines.specs.declared.line.Line.{Line}
use Rattle.p11_lines.specs.declared.line.Line.TheVariants as lines
use Rattle.p11_lines.specs.Calls.LineText.{FitsGrammar, line_text}
use Rattle.p11_cpu.specs.State.{State}
use Rattle.p11_cpu.specs.OperatorDevices.{room_of}
use Rattle.p11_panel.specs.declared.command.Command.TheVariants as commands
use Rattle.p11_panel.specs.Calls.Runs.{run_command}
use Rattle.p11_panel.specs.Commands.{CommandStep}
use Rattle.p11_panel.specs.Keys.{pressed}
use Rattle.p11_panel.specs.Session.{SessionState, with_store, Obeys}
use Rattle.p11_store.specs.Store.{StoreState}
use Rattle.p11_dialogue.specs.Record.{ended, keys_text, run_text, tick_text}
use Rattle.p11_dialogue.specs.Runs.{at_slice, course_of, given_keys, goes_on, next_run, slice_turns, typed_in}
use Rattle.p11_dialogue.specs.Behind.{activity_behind, activity_stopped}
use Rattle.p11_dialogue.specs.declared.run.Course.{Course}
use Rattle.p11_dialogue.specs.declared.run.Course.TheVariants as course
use Rattle.p11_dialogue.specs.declared.run.RunProgress.{RunProgress}
use Rattle.p11_dialogue.specs.declared.activity.Activity.TheVariants as activities
use Rattle.p11_records.specs.Again.{IsOfScript}
use Rattle.p11_records.proofs.LinesFit.{AreBytes}
use Rattle.p11_records.proofs.ShortLines.{of_script, room_small}
use Rattle.p11_records.proofs.KeysGiven.{given_bytes, given_fit}
use Rattle.p11_records.proofs.MergedLemmas.{merged_more, run_goes_on, runs_on, same_halts}
use Rattle.p11_records.proofs.RecordLemmas.{Again, one_more}
use Rattle.p11_records.proofs.RunLemmas.{Made, made_by, refused_run}
use Rattle.p11_records.proofs.TypedCommands.{pressed_stays, run_answers, run_leaves_none, step_stays}
use Rattle.p11_records.proofs.UnderWay.{Going, Holds, Now, Open, closes}

-- A SLICE

-- while a run isn't recorded for its length, a slice keeps it within that
full_not : (ticks full : Bool) (others : Course) → (if ticks then course.Ticks else (if full then course.Records else others)) ≡ course.Slices → full ≡ false
full_not true full others e = cc
full_not false true others e = cc
full_not false false others e = refl

pub not_full : (run : RunProgress) (is_person : Bool) (ticks : ℕ) (is_over : Bool) (keys : List ℕ) (room : ℕ) → course_of run is_person ticks is_over keys room ≡ course.Slices → run.made < 100000000
unfolding course_of
not_full run is_person ticks is_over keys room e =
    let full : nat_le 100000000 run.made ≡ false = full_not (nat_lt 0 ticks) (nat_le 100000000 run.made) _ e in
    grind (arith, nat_tests, full)

few_turns : (most left made : ℕ) → made < 100000000 → made + max 1 (min most (min left (100000000 - made))) ≤ 100000000
few_turns most left made below = omega (arith, below)

pub within : (run : RunProgress) (has_keys : Bool) (turns : ℕ) → run.made < 100000000 → run.made + slice_turns run has_keys turns ≤ 100000000
unfolding slice_turns
within run has_keys turns below = few_turns _ run.left run.made below

-- a run that goes on was stopped by its turns, or by idling
going_reason : (run : RunProgress) (reason : StopReason) (turns : ℕ) → goes_on run reason turns ≡ true → runs_on reason ≡ true
unfolding goes_on
going_reason run reasons.Turns turns e = refl
going_reason run reasons.Idle turns e = refl
going_reason run reasons.Halt turns e = e
going_reason run reasons.Memory turns e = e

-- a slice that is refused changes nothing
refused_behind : (A : Type 0) (text typed : List ℕ) (run : RunProgress) (has_keys : Bool) (machine machine' : State) (store : StoreState) (t : SessionState) → machine' ≡ machine → Again A (text ++ run_text A run.made) typed (with_store machine store) t → Again A (text ++ run_text A (at_slice has_keys run).made) (typed ++ []) (with_store machine' store) t
unfolding at_slice
refused_behind A text typed run has_keys machine machine' store t same done =
    subst (λ (x : List ℕ). Again A (text ++ run_text A run.made) x (with_store machine' store) t) (sym (append-nil typed))
    (subst (λ (m : State). Again A (text ++ run_text A run.made) typed (with_store m store) t) (sym same) done)

as_many : (made turns : ℕ) → made + turns ≤ 100000000 → min (made + turns) 4294967295 ≡ made + turns
as_many made turns few = omega (arith, few)

module _ (A : Type 0) (text typed : List ℕ) (run : RunProgress) (machine machine' : State) (store : StoreState) (t : SessionState) (n : ℕ) (clean : machine.bus.typed ≡ []) (going : Going A text typed run.made machine store t) (few : run.made + n ≤ 100000000) where
  stopped_open : (more : List ℕ) (turns pc : ℕ) → Made run.until_idle n turns more pc machine machine' → Open A text (typed ++ more) (run.made + turns) machine' store t
  stopped_open more turns pc made =
      let r = going.so_far in
      record {
        earlier = r.earlier;
        during = r.during ++ more;
        start = r.start;
        done = r.done;
        clean = r.clean;
        run = merged_more run.made r.during r.start machine r.run run.until_idle n turns more pc machine' going.running few made;
        all = ap (λ (x : List ℕ). x ++ more) r.all ∙ append_assoc r.earlier r.during more;
      }

  going_on : (more : List ℕ) (reason : StopReason) (turns pc : ℕ) → CommandStep {A = A} machine (run_command run.until_idle n) (answers.Stop more reason turns pc) machine' → runs_on reason ≡ true → Going A text (typed ++ more) (run.made + turns) machine' store t
  unfolding stopped_open
  going_on more reason turns pc step on =
      let r = going.so_far in
      record {
        so_far = stopped_open more turns pc (made_by {A = A} run.until_idle n more reason turns pc machine machine' step);
        running = same_halts run.made r.during r.start machine r.run going.running turns (run_goes_on {A = A} run.until_idle n more reason turns pc machine machine' on step);
      }

  -- what comes behind the slice
  by_going : (is_going : Bool) (has_keys : Bool) (more : List ℕ) (reason : StopReason) (turns pc : ℕ) → goes_on (at_slice has_keys run) reason turns ≡ is_going → CommandStep {A = A} machine (run_command run.until_idle n) (answers.Stop more reason turns pc) machine' → run.made + turns ≤ 100000000
      → Now (activity_stopped {A = A} is_going (next_run (at_slice has_keys run) more reason turns) reason pc) text (typed ++ more) machine' store t
  unfolding activity_stopped next_run at_slice
  by_going true has_keys more reason turns pc on step most =
      subst (λ (made : ℕ). Going A text (typed ++ more) made machine' store t) (sym (as_many run.made turns most))
      (going_on more reason turns pc step (going_reason (at_slice has_keys run) reason turns on))
  by_going false has_keys more reason turns pc over step most =
      closes A text (typed ++ more) (min (run.made + turns) 4294967295) machine' store t
      (subst (λ (made : ℕ). Open A text (typed ++ more) made machine' store t) (sym (as_many run.made turns most))
      (stopped_open more turns pc (made_by {A = A} run.until_idle n more reason turns pc machine machine' step)))

  turns_within : (more : List ℕ) (reason : StopReason) (turns pc : ℕ) → CommandStep {A = A} machine (run_command run.until_idle n) (answers.Stop more reason turns pc) machine' → run.made + turns ≤ 100000000
  turns_within more reason turns pc step = (stopped_open more turns pc (made_by {A = A} run.until_idle n more reason turns pc machine machine' step)).run.few

  behind : (has_keys : Bool) (answer : Answer A) → CommandStep machine (run_command run.until_idle n) answer machine' → Now (activity_behind (at_slice has_keys run) answer) text (typed ++ typed_in answer) machine' store t
  unfolding activity_behind typed_in
  behind has_keys (answers.Stop more reason turns pc) step =
      by_going (goes_on (at_slice has_keys run) reason turns) has_keys more reason turns pc refl step (turns_within more reason turns pc step)
  behind has_keys (answers.Refused fault) step =
      refused_behind A text typed run has_keys machine machine' store t (refused_run A run.until_idle n fault machine machine' step) (closes A text typed run.made machine store t going.so_far)
  behind has_keys answer step = (let q = run_answers run.until_idle n answer machine machine' step in cc q)

  pub slice_holds : (has_keys : Bool) (answer : Answer A) → CommandStep machine (run_command run.until_idle n) answer machine' → Holds (activities.Sliced (at_slice has_keys run) answer) text (typed ++ typed_in answer) machine' store t
  slice_holds has_keys answer step =
      record { clean = run_leaves_none run.until_idle n answer machine machine' clean step; stands = behind has_keys answer step }

-- A LINE BEHIND THE TURNS

-- a line that types nothing, behind what is due
line_behind : {A : Type 0} (text more typed : List ℕ) (line : Line A) (machine machine' : State) (store : StoreState) (t : SessionState) → IsOfScript line → Again A (text ++ more) typed (with_store machine store) t → Obeys line (with_store machine store) answers.Done (with_store machine' store) → Again A (text ++ (more ++ ended line)) typed (with_store machine' store) t
unfolding typed_in
line_behind {A} text more typed line machine machine' store t fits done h =
    let next : Again A ((text ++ more) ++ ended line) (typed ++ []) (with_store machine' store) t =
    one_more {A = A} (text ++ more) typed line answers.Done (with_store machine store) (with_store machine' store) t fits (λ fault e. cc) done h in
    subst (λ (x : List ℕ). Again A x typed (with_store machine' store) t) (append_assoc text more (ended line))
    (subst (λ (x : List ℕ). Again A ((text ++ more) ++ ended line) x (with_store machine' store) t) (append-nil typed) next)

-- a tick is done, and never refused
tick_line : (A : Type 0) → ended {A = A} lines.Tick ≡ codes "tick\n"
unfolding ended line_text
tick_line A = refl

tick_done : {A : Type 0} (answer : Answer A) (s s' : State) → CommandStep s commands.Tick answer s' → CommandStep {A = A} s commands.Tick answers.Done s'
tick_done answer s s' (inl e) = inl (ap (λ r. (r.0, answers.Done)) e)
tick_done answer s s' (inr (inl (takes, refused))) = cc
tick_done answer s s' (inr (inr (k, below, needs, stops))) = absurd (omega (arith, below))

pub ticked : {A : Type 0} (text typed : List ℕ) (made : ℕ) (answer : Answer A) (machine machine' : State) (store : StoreState) (t : SessionState) → Open A text typed made machine store t → CommandStep machine commands.Tick answer machine' → Again A (text ++ tick_text A made) typed (with_store machine' store) t
unfolding tick_text Obeys FitsGrammar
ticked {A} text typed made answer machine machine' store t open_run step =
    subst (λ (x : List ℕ). Again A (text ++ (run_text A made ++ x)) typed (with_store machine' store) t) (tick_line A)
    (line_behind {A = A} text (run_text A made) typed lines.Tick machine machine' store t (of_script {A = A} lines.Tick tt tt) (closes A text typed made machine store t open_run) (tick_done answer machine machine' step, refl))

pub tick_leaves_none : {A : Type 0} (answer : Answer A) (machine machine' : State) → machine.bus.typed ≡ [] → CommandStep {A = A} machine commands.Tick answer machine' → machine'.bus.typed ≡ []
tick_leaves_none answer machine machine' clean step = step_stays commands.Tick answer machine machine' refl step ∙ clean

-- KEYS

presses : (A : Type 0) (full : Bool) (keys : List ℕ) (s : State) → full ≡ false → ◌≡◌ {A = State × Answer A} (if full then (s, answers.Refused KeysFull) else (pressed keys s, answers.Done)) (pressed keys s, answers.Done)
presses A true keys s e = cc
presses A false keys s e = refl

pressed_is : (A : Type 0) (keys : List ℕ) (s : State) → length keys ≤ room_of s → CommandStep {A = A} s (commands.Key keys) answers.Done (pressed keys s)
pressed_is A keys s fits =
    let test : nat_lt (room_of s) (length keys) ≡ false = grind (arith, nat_tests, fits) in
    inl (presses A (nat_lt (room_of s) (length keys)) keys s test)

pub keyed : {A : Type 0} (text typed : List ℕ) (made : ℕ) (is_person : Bool) (keys : List ℕ) (machine : State) (store : StoreState) (t : SessionState) → 0 < length (given_keys is_person keys (room_of machine)).0 → AreBytes keys → Open A text typed made machine store t
    → Again A (text ++ keys_text A made (given_keys is_person keys (room_of machine)).0) typed (with_store (pressed (given_keys is_person keys (room_of machine)).0 machine) store) t
unfolding keys_text Obeys FitsGrammar
keyed {A} text typed made is_person keys machine store t some bytes open_run =
    let given = (given_keys is_person keys (room_of machine)).0 in
    let few = given_fit is_person keys (room_of machine) in
    let room = room_small machine in
    line_behind {A = A} text (run_text A made) typed (lines.Key given) machine (pressed given machine) store t
    (of_script {A = A} (lines.Key given) (some, given_bytes is_person keys (room_of machine) bytes) (omega (arith, few, room))) (closes A text typed made machine store t open_run)
    (pressed_is A given machine (given_fit is_person keys (room_of machine)), refl)

pub keys_leave_none : (keys : List ℕ) (machine : State) → machine.bus.typed ≡ [] → (pressed keys machine).bus.typed ≡ []
keys_leave_none keys machine clean = pressed_stays keys machine ∙ clean
