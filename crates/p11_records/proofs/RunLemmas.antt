-- Runs that are made again.
use Rattle.std.proofs.Common.{◌≡◌, ℕ, zero, suc, ◌+◌, ◌-◌, ◌<◌, ◌≤◌, Bool, true, false, ◌||◌, nat_lt, ◌==◌, if◌then◌else◌, List, [], Option, Some, None, MatchOption, refl, ap, subst, sym, ◌∙◌, arith, inl, inr}
use Rattle.std.proofs.lemmas.Bool.{cases_Bool, cases_eq, cases_lt, lt-ltb}
use Rattle.std.proofs.lemmas.Bool.Decides.{nat_tests}
use Rattle.std.specs.Prelude.{find}
use Rattle.std.specs.List.{range_with_len}
use Rattle.std.specs.Option.{option_map_or}
use Rattle.p11_lines.specs.declared.answer.Answer.{Answer}
use Rattle.p11_lines.specs.declared.answer.Answer.TheVariants as answers
use Rattle.p11_lines.specs.declared.answer.StopReason.{StopReason}
use Rattle.p11_lines.specs.declared.answer.StopReason.TheVariants as reasons
use Rattle.p11_lines.specs.declared.fault.Fault.{Fault}
use Rattle.p11_lines.specs.declared.line.Line.TheVariants as lines
use Rattle.p11_cpu.specs.OperatorDevices.{take_typed_of}
use Rattle.p11_cpu.specs.State.{State}
use Rattle.p11_cpu.specs.Turns.{after_turns}
use Rattle.p11_panel.specs.declared.command.Command.TheVariants as commands
use Rattle.p11_panel.specs.Calls.Runs.{stops_idling, stop_of, IsMemory, IsRun, run_command}
use Rattle.p11_panel.specs.Commands.{outcome, turns_in, CommandStep}
use Rattle.p11_panel.specs.Refusals.{unless}
use Rattle.p11_panel.specs.Runs.{step_fault, last_halted, ends_after, turns_made, reason_of, stopped, whole_run}
use Rattle.p11_panel.specs.Session.{Obeys}
use Rattle.p11_panel.proofs.RunLemmas.{turns_after}
use Rattle.p11_panel.proofs.RunOutcomes.{run_steps, stopped_as}
use Rattle.p11_records.specs.Again.{RunsAreMadeAgain, TwoStepsAreOne}
use Rattle.p11_records.proofs.OutcomeLemmas.{answered, no_stop, shown_stop}

-- HOW MANY TURNS ARE MADE

-- what is found is no later than the end
found_within : (p : ℕ → Bool) (a n end : ℕ) → end ≡ a + n → option_map_or (λ k. k) (find p (range_with_len a n)) end ≤ end
found_within p a zero end e = omega arith
found_within p a (suc n) end e =
    elim (cases_Bool (p a)) [
      | inl now ↦ rw now (omega (arith, e))
      | inr later ↦ let rest = found_within p (a + 1) n end (omega (arith, e)) in rw later rest
    ]

-- and is the first
none_before : (p : ℕ → Bool) (a n end : ℕ) → end ≡ a + n → (j : ℕ) → a ≤ j → j < option_map_or (λ k. k) (find p (range_with_len a n)) end → p j ≡ false
none_before p a zero end e j from below = absurd (omega (arith, e, from, below))
none_before p a (suc n) end e j from below =
    elim (cases_Bool (p a)) [
      | inl now ↦ let early : j < a = rw now at below in absurd (omega (arith, from, early))
      | inr later ↦
          elim (cases_eq j a) [
            | inl here ↦ subst (λ k. p k ≡ false) (sym here) later
            | inr past ↦ none_before p (a + 1) n end (omega (arith, e)) j (omega (arith, from, past)) (rw later at below)
          ]
    ]

pub within : (asked : Bool) (n : ℕ) (s : State) → turns_made asked n s ≤ n
unfolding turns_made
within asked n s = found_within (ends_after asked s) 0 n n (omega arith)

not_first : (a b : Bool) → (a || b) ≡ false → a ≡ false
not_first true b e = cc
not_first false b e = refl

-- before the last of its turns a run hasn't halted
pub ran_on : (asked : Bool) (n : ℕ) (s : State) (j : ℕ) → j < turns_made asked n s → last_halted j s ≡ false
unfolding turns_made ends_after
ran_on asked n s j below = not_first (last_halted j s) _ (none_before (ends_after asked s) 0 n n (omega arith) j (omega arith) below)

-- A STEP STOPS

step_goes_on : (k j : ℕ) (s : State) → last_halted j s ≡ false → (j == k) ≡ false → stop_of (stops_idling false) k j s ≡ None
unfolding stop_of
step_goes_on k j s ran other = rw (ran, other) refl

abbrev end_of : Bool → StopReason
end_of true = reasons.Halt
end_of false = reasons.Turns

step_ends : (k : ℕ) (s : State) (halted : Bool) → last_halted k s ≡ halted → stop_of (stops_idling false) k k s ≡ Some (end_of halted)
unfolding stop_of
step_ends k s true e = rw e refl
step_ends k s false e =
    let same : (k == k) ≡ true = grind arith in
    rw (e, same) refl

-- the turns of a run as a step
step_of : (k : ℕ) (s : State) → ((j : ℕ) → j < k → last_halted j s ≡ false) → IsRun (stops_idling false) k s k (end_of (last_halted k s)) (after_turns k s)
step_of k s ran =
    let reason : StopReason = end_of (last_halted k s) in
    record {
      state = refl;
      stops = subst (λ (o : Option StopReason). MatchOption o (IsMemory reason (after_turns k s)) (λ first. reason ≡ first)) (sym (step_ends k s (last_halted k s) refl)) refl;
      goes_on = λ j h. step_goes_on k j s (ran j h) (grind (arith, nat_tests, h));
    }

-- STEP IS ALLOWED

refuses : {F : Type 0} (test : Bool) (f : F) → (if test then Some f else None) ≡ None → test ≡ false
refuses true f e = cc
refuses false f e = refl

tests_of : (none most late : Bool) → (none || most || late) ≡ false → (most ≡ false) × (late ≡ false)
tests_of true most late e = cc
tests_of false true late e = cc
tests_of false false true e = cc
tests_of false false false e = (refl, refl)

-- a run that is asked for is of so many turns at most, and isn't too late
pub within_limits : (n : ℕ) (s : State) → step_fault n s ≡ None → (n ≤ 100000000) × (s.turns + n ≤ 0x4000_0000_0000_0000)
unfolding step_fault
within_limits n s free =
    let t = tests_of (n == 0) (nat_lt 100000000 n) (nat_lt 0x4000_0000_0000_0000 (s.turns + n)) (refuses _ _ free) in
    let most : nat_lt 100000000 n ≡ false = t.0 in
    let late : nat_lt 0x4000_0000_0000_0000 (s.turns + n) ≡ false = t.1 in
    (grind (arith, nat_tests, most), grind (arith, nat_tests, late))

pub may_run : (k : ℕ) (s : State) → 0 < k → k ≤ 100000000 → s.turns + k ≤ 0x4000_0000_0000_0000 → step_fault k s ≡ None
unfolding step_fault
may_run k s some few early =
    let none : (k == 0) ≡ false = grind (arith, nat_tests, some) in
    let most : nat_lt 100000000 k ≡ false = grind (arith, nat_tests, few) in
    let late : nat_lt 0x4000_0000_0000_0000 (s.turns + k) ≡ false = grind (arith, nat_tests, early) in
    rw (none, most, late) refl

allowed : (k n : ℕ) (s : State) → 0 < k → k ≤ n → step_fault n s ≡ None → step_fault k s ≡ None
allowed k n s some few e =
    let limits = within_limits n s e in
    may_run k s some (omega (arith, few, limits.0)) (omega (arith, few, limits.1))

-- A RUN IS MADE AGAIN

abbrev stop_typed : {A : Type 0} → Answer A → List ℕ
stop_typed (answers.Stop typed reason turns pc) = typed
stop_typed _ = []

abbrev stop_pc : {A : Type 0} → Answer A → ℕ
stop_pc (answers.Stop typed reason turns pc) = pc
stop_pc _ = 0

-- a run of n turns made so many of them, typed these bytes, and stopped at this PC
pub record Made (asked : Bool) (n k : ℕ) (typed : List ℕ) (pc : ℕ) (s s' : State) : Type 0 where
  pub free : step_fault n s ≡ None
  pub made : k ≤ turns_made asked n s
  pub state : s' ≡ take_typed_of (after_turns k s)
  pub text : (after_turns k s).bus.typed ≡ typed
  pub counter : (after_turns k s).processor.registers.pc ≡ pc

stopped_so : {A : Type 0} (asked : Bool) (n k : ℕ) (why reason : StopReason) (typed : List ℕ) (turns pc : ℕ) (s s' : State) → step_fault n s ≡ None → k ≤ turns_made asked n s → ◌≡◌ {A = State × Answer A} (stopped why k (after_turns k s)) (s', answers.Stop typed reason turns pc) → Made asked n turns typed pc s s'
stopped_so {A} asked n k why reason typed turns pc s s' free few stops =
    let same : k ≡ turns = ap (λ (r : State × Answer A). turns_in r.1) stops in
    subst (λ (m : ℕ). Made asked n m typed pc s s') same
    (record {
      free = free;
      made = few;
      state = sym (ap (λ (r : State × Answer A). r.0) stops);
      text = ap (λ (r : State × Answer A). stop_typed r.1) stops;
      counter = ap (λ (r : State × Answer A). stop_pc r.1) stops;
    })

run_outcome : (A : Type 0) (asked : Bool) (n : ℕ) (s : State) → outcome {A = A} (run_command asked n) s ≡ unless (step_fault n s) s (whole_run asked n s)
run_outcome A true n s = refl
run_outcome A false n s = refl

pub by_fault : (A : Type 0) (asked : Bool) (n : ℕ) (s : State) (fault : Option Fault) → step_fault n s ≡ fault → outcome {A = A} (run_command asked n) s ≡ unless fault s (whole_run asked n s)
by_fault A asked n s fault e = run_outcome A asked n s ∙ ap (λ f. unless {A = A} f s (whole_run asked n s)) e

pub whole_turns : (A : Type 0) (asked : Bool) (n : ℕ) (s : State) → turns_in {A = A} (whole_run asked n s).1 ≡ turns_made asked n s
unfolding whole_run
whole_turns A asked n s = refl

whole_stops : {A : Type 0} (asked : Bool) (n : ℕ) (reason : StopReason) (typed : List ℕ) (turns pc : ℕ) (s s' : State) → step_fault n s ≡ None → ◌≡◌ {A = State × Answer A} (whole_run asked n s) (s', answers.Stop typed reason turns pc) → Made asked n turns typed pc s s'
unfolding whole_run
whole_stops asked n reason typed turns pc s s' free stops =
    stopped_so asked n (turns_made asked n s) (reason_of n (turns_made asked n s) s) reason typed turns pc s s' free (omega arith) stops

stopped_by : {A : Type 0} (asked : Bool) (n : ℕ) (typed : List ℕ) (reason : StopReason) (turns pc : ℕ) (s s' : State) (fault : Option Fault) → step_fault n s ≡ fault → CommandStep {A = A} s (run_command asked n) (answers.Stop typed reason turns pc) s' → Made asked n turns typed pc s s'
stopped_by {A} asked n typed reason turns pc s s' None free (inl same) =
    whole_stops {A = A} asked n reason typed turns pc s s' free (sym (by_fault A asked n s None free) ∙ same)
stopped_by {A} asked n typed reason turns pc s s' (Some f) e (inl same) =
    absurd (no_stop {A = A} typed reason turns pc f (sym (ap (λ r. r.1) (sym (by_fault A asked n s (Some f) e) ∙ same))))
stopped_by {A} asked n typed reason turns pc s s' fault e (inr (inl h)) = absurd (no_stop {A = A} typed reason turns pc _ h.1.0)
stopped_by {A} asked n typed reason turns pc s s' None free (inr (inr h)) =
    let all : turns_in {A = A} (outcome (run_command asked n) s).1 ≡ turns_made asked n s = ap (λ r. turns_in {A = A} r.1) (by_fault A asked n s None free) ∙ whole_turns A asked n s in
    stopped_so {A = A} asked n h.0 reasons.Memory reason typed turns pc s s' free (omega (arith, h.1, all)) h.3
stopped_by {A} asked n typed reason turns pc s s' (Some f) e (inr (inr h)) =
    let none : turns_in {A = A} (outcome (run_command asked n) s).1 ≡ 0 = ap (λ r. turns_in {A = A} r.1) (by_fault A asked n s (Some f) e) in
    absurd (omega (arith, h.1, none))

-- a run that stopped made its turns
pub made_by : {A : Type 0} (asked : Bool) (n : ℕ) (typed : List ℕ) (reason : StopReason) (turns pc : ℕ) (s s' : State) → CommandStep {A = A} s (run_command asked n) (answers.Stop typed reason turns pc) s' → Made asked n turns typed pc s s'
made_by {A} asked n typed reason turns pc s s' h = stopped_by {A = A} asked n typed reason turns pc s s' (step_fault n s) refl h

refused_by : (A : Type 0) (asked : Bool) (n : ℕ) (fault : Fault) (s s' : State) (first : Option Fault) → step_fault n s ≡ first → CommandStep {A = A} s (run_command asked n) (answers.Refused fault) s' → s' ≡ s
unfolding whole_run
refused_by A asked n fault s s' None free (inl same) =
    absurd (no_stop {A = A} _ _ _ _ fault (ap (λ r. r.1) (sym (by_fault A asked n s None free) ∙ same)))
refused_by A asked n fault s s' (Some f) e (inl same) = sym (ap (λ r. r.0) (sym (by_fault A asked n s (Some f) e) ∙ same))
refused_by A asked n fault s s' first e (inr (inl h)) = h.1.1
refused_by A asked n fault s s' first e (inr (inr h)) = absurd (no_stop {A = A} _ _ _ _ fault (ap (λ r. r.1) h.3))

-- a run that is refused changes nothing
pub refused_run : (A : Type 0) (asked : Bool) (n : ℕ) (fault : Fault) (s s' : State) → CommandStep {A = A} s (run_command asked n) (answers.Refused fault) s' → s' ≡ s
refused_run A asked n fault s s' h = refused_by A asked n fault s s' (step_fault n s) refl h

-- a step of so many turns comes to the state after them, if none but the last halts
pub as_step : (A : Type 0) (k : ℕ) (typed : List ℕ) (pc : ℕ) (s s' : State) → step_fault k s ≡ None → ((j : ℕ) → j < k → last_halted j s ≡ false) → s' ≡ take_typed_of (after_turns k s) → (after_turns k s).bus.typed ≡ typed → (after_turns k s).processor.registers.pc ≡ pc → (other : StopReason) × CommandStep {A = A} s (commands.Step k) (answers.Stop typed other k pc) s'
as_step A k typed pc s s' free ran state typed_so counter_so =
    let last : State = after_turns k s in
    let other : StopReason = end_of (last_halted k s) in
    let text : ◌≡◌ {A = Answer A} (answers.Stop last.bus.typed other k last.processor.registers.pc) (answers.Stop typed other k last.processor.registers.pc) = ap (λ (t : List ℕ). answers.Stop t other k last.processor.registers.pc) typed_so in
    let counter : ◌≡◌ {A = Answer A} (answers.Stop typed other k last.processor.registers.pc) (answers.Stop typed other k pc) = ap (λ (p : ℕ). answers.Stop typed other k p) counter_so in (
      other,
      run_steps {A = A} false k k s other last (answers.Stop typed other k pc) s' free (step_of k s ran)
          (stopped_as other k last s' (answers.Stop typed other k pc) state (text ∙ counter)),
    )

again : (A : Type 0) (asked : Bool) (n k : ℕ) (typed : List ℕ) (pc : ℕ) (s s' : State) → Made asked n k typed pc s s' → 0 < k → (other : StopReason) × CommandStep {A = A} s (commands.Step k) (answers.Stop typed other k pc) s'
again A asked n k typed pc s s' run some =
    let few : k ≤ n = omega (arith, run.made, within asked n s) in
    as_step A k typed pc s s' (allowed k n s some few run.free) (λ j below. ran_on asked n s j (omega (arith, below, run.made))) run.state run.text run.counter

pub made_again : (A : Type 0) → RunsAreMadeAgain A
unfolding Obeys
made_again A (lines.Step n) typed reason turns pc s s' of_run h some =
    let step = again A false n turns typed pc s.machine s'.machine (made_by {A = A} false n typed reason turns pc s.machine s'.machine h.0) some in
    (step.0, (step.1, h.1))
made_again A (lines.Continue n) typed reason turns pc s s' of_run h some =
    let step = again A true n turns typed pc s.machine s'.machine (made_by {A = A} true n typed reason turns pc s.machine s'.machine h.0) some in
    (step.0, (step.1, h.1))
made_again A (lines.Key text) typed reason turns pc s s' of_run h some =
    absurd (shown_stop {A = A} typed reason turns pc s.machine s'.machine (answered s.machine (commands.Key text) (answers.Stop typed reason turns pc) s'.machine refl h.0))
made_again A line typed reason turns pc s s' of_run h some = cc

-- TWO STEPS ARE ONE

-- the last of some turns
last_of : (j : ℕ) (s : State) → last_halted (suc j) s ≡ (after_turns (suc j) s).processor.halted
unfolding last_halted
last_of j s = rw (lt-ltb 0 (suc j) (omega arith)) refl

none_halted : (s : State) → last_halted 0 s ≡ false
unfolding last_halted
none_halted s = refl

pub halted_after : (j k : ℕ) (s : State) → last_halted k s ≡ false → last_halted j (after_turns k s) ≡ last_halted (k + j) s
halted_after zero k s ran =
    let none : k ≡ k + 0 = omega arith in
    none_halted (after_turns k s) ∙ sym ran ∙ ap (λ n. last_halted n s) none
halted_after (suc j) k s ran =
    let number : k + suc j ≡ suc (k + j) = omega arith in
    last_of j (after_turns k s) ∙ ap (λ (x : State). x.processor.halted) (turns_after (suc j) k s ∙ ap (λ n. after_turns n s) number)
    ∙ sym (last_of (k + j) s) ∙ ap (λ n. last_halted n s) (sym number)

same_test : (n j m : ℕ) (same : Bool) → (j == m) ≡ same → (n + j == n + m) ≡ same
same_test n j m true e = grind (arith, nat_tests, e)
same_test n j m false e = grind (arith, nat_tests, e)

stop_after : (m n j : ℕ) (s s' : State) → s' ≡ after_turns n s → last_halted n s ≡ false → stop_of (stops_idling false) m j s' ≡ stop_of (stops_idling false) (n + m) (n + j) s
unfolding stop_of
stop_after m n j s s' e ran =
    let halted : last_halted j s' ≡ last_halted (n + j) s = ap (last_halted j) e ∙ halted_after j n s ran in
    let number : (j == m) ≡ (n + j == n + m) = sym (same_test n j m (j == m) refl) in
    rw (halted, number) refl

other_reason : reasons.Turns ≡ reasons.Halt → ⊥
other_reason e = cc

ended : (n : ℕ) (s s' : State) (halted : Bool) → last_halted n s ≡ halted → MatchOption (stop_of (stops_idling false) n n s) (IsMemory reasons.Turns s') (λ first. reasons.Turns ≡ first) → last_halted n s ≡ false
ended n s s' false e h = e
ended n s s' true e h =
    let halt : reasons.Turns ≡ reasons.Halt = subst (λ (o : Option StopReason). MatchOption o (IsMemory reasons.Turns s') (λ first. reasons.Turns ≡ first)) (step_ends n s true e) h in
    absurd (other_reason halt)

-- a run that made all its turns has not halted
all_ran : (n : ℕ) (s s' : State) → IsRun (stops_idling false) n s n reasons.Turns s' → last_halted n s ≡ false
all_ran n s s' run = ended n s s' (last_halted n s) refl run.stops

not_halted : (halted made idle : Bool) → ◌≡◌ {A = Option StopReason} (if halted then Some reasons.Halt else (if made then Some reasons.Turns else (if idle then Some reasons.Idle else None))) None → halted ≡ false
not_halted true made idle e = cc
not_halted false made idle e = refl

unhalted : (n j : ℕ) (s : State) → stop_of (stops_idling false) n j s ≡ None → last_halted j s ≡ false
unfolding stop_of
unhalted n j s e = not_halted (last_halted j s) (j == n) (stops_idling false (after_turns j s)) e

one_step : (n m k : ℕ) (reason : StopReason) (s s' s'' : State) → IsRun (stops_idling false) n s n reasons.Turns s' → IsRun (stops_idling false) m s' k reason s'' → (j : ℕ) → j < n + k → stop_of (stops_idling false) (n + m) j s ≡ None
one_step n m k reason s s' s'' first next j h =
    elim (cases_lt j n) [
      | inl early ↦ step_goes_on (n + m) j s (unhalted n j s (first.goes_on j early)) (grind (arith, nat_tests, early))
      | inr late ↦
          let i : ℕ = j - n in
          let number : n + i ≡ j = omega (arith, late) in
          let below : i < k = omega (arith, late, h) in
          subst (λ (x : ℕ). stop_of (stops_idling false) (n + m) x s ≡ None) number (sym (stop_after m n i s s' first.state (all_ran n s s' first)) ∙ next.goes_on i below)
    ]

pub two_are_one : TwoStepsAreOne
two_are_one n m k reason s s' s'' first next =
    record {
      state = next.state ∙ ap (after_turns k) first.state ∙ turns_after k n s;
      stops = subst (λ (o : Option StopReason). MatchOption o (IsMemory reason s'') (λ f. reason ≡ f)) (stop_after m n k s s' first.state (all_ran n s s' first)) next.stops;
      goes_on = one_step n m k reason s s' s'' first next;
    }
