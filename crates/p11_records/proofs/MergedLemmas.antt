-- Slices of a run are one run, if none of them but the last halts.
use Rattle.std.proofs.Common.{◌≡◌, ℕ, ◌+◌, ◌-◌, ◌<◌, ◌≤◌, Bool, true, false, ◌&&◌, nat_lt, if◌then◌else◌, List, [], ◌++◌, Option, Some, None, refl, ap, subst, sym, ◌∙◌, arith, inl, inr}
use Rattle.std.proofs.lemmas.Bool.{cases_lt}
use Rattle.p11_lines.specs.declared.answer.Answer.{Answer}
use Rattle.p11_lines.specs.declared.answer.Answer.TheVariants as answers
use Rattle.p11_lines.specs.declared.answer.StopReason.{StopReason}
use Rattle.p11_lines.specs.declared.answer.StopReason.TheVariants as reasons
use Rattle.p11_lines.specs.declared.fault.Fault.{Fault}
use Rattle.p11_unibus.specs.Events.{bus_after_take}
use Rattle.p11_cpu.specs.OperatorDevices.{take_typed_of}
use Rattle.p11_cpu.specs.State.{State}
use Rattle.p11_cpu.specs.Turns.{after_turns}
use Rattle.p11_panel.specs.declared.command.Command.TheVariants as commands
use Rattle.p11_panel.specs.Calls.Runs.{run_command}
use Rattle.p11_panel.specs.Commands.{CommandStep}
use Rattle.p11_panel.specs.Runs.{step_fault, last_halted, turns_made, reason_of, whole_run}
use Rattle.p11_panel.proofs.RunLemmas.{turns_after}
use Rattle.p11_records.proofs.OutcomeLemmas.{no_stop}
use Rattle.p11_records.proofs.RunLemmas.{Made, as_step, by_fault, halted_after, may_run, ran_on, within, within_limits}
use Rattle.p11_records.proofs.TypedTurns.{typed_before, turns_behind, taken_and_back, turns_count}

-- So many turns are made since a state, of which none but the last may have halted. These characters were typed in them,
-- and are taken.
pub record Merged (made : ℕ) (typed : List ℕ) (s s' : State) : Type 0 where
  pub state : s' ≡ take_typed_of (after_turns made s)
  pub text : (after_turns made s).bus.typed ≡ typed
  pub ran : (j : ℕ) → j < made → last_halted j s ≡ false
  pub few : made ≤ 100000000
  pub early : 0 < made → s.turns + made ≤ 0x4000_0000_0000_0000

taken_none : (s : State) → s.bus.typed ≡ [] → s ≡ take_typed_of s
unfolding take_typed_of bus_after_take
taken_none s none = ap (λ (t : List ℕ). record s { bus = record s.bus { typed = t } }) none

-- none is made
pub none_made : (s : State) → s.bus.typed ≡ [] → Merged 0 [] s s
unfolding after_turns
none_made s none =
    record { state = taken_none s none; text = none; ran = λ j below. absurd (omega (arith, below)); few = omega arith; early = λ some. absurd (omega (arith, some)) }

pub none_halted : (s : State) → last_halted 0 s ≡ false
unfolding last_halted
none_halted s = refl

-- characters that were typed before don't matter
halted_behind : (k : ℕ) (earlier : List ℕ) (s : State) → last_halted k (typed_before earlier s) ≡ last_halted k s
unfolding last_halted
halted_behind k earlier s = ap (λ (x : State). nat_lt 0 k && x.processor.halted) (turns_behind k earlier s)

take_behind : (earlier : List ℕ) (s : State) → take_typed_of (typed_before earlier s) ≡ take_typed_of s
unfolding take_typed_of bus_after_take
take_behind earlier s = refl

take_turns : (s : State) → (take_typed_of s).turns ≡ s.turns
unfolding take_typed_of
take_turns s = refl

module _ (made : ℕ) (typed : List ℕ) (s s' : State) (first : Merged made typed s s') where
  -- the machine before its characters were taken
  before : after_turns made s ≡ typed_before typed s'
  before =
      sym (taken_and_back (after_turns made s))
      ∙ ap (λ (t : List ℕ). typed_before t (take_typed_of (after_turns made s))) first.text
      ∙ ap (typed_before typed) (sym first.state)

  further : (k : ℕ) → after_turns (made + k) s ≡ typed_before typed (after_turns k s')
  further k = sym (turns_after k made s) ∙ ap (after_turns k) before ∙ turns_behind k typed s'

  same_halt : last_halted made s ≡ false → (k : ℕ) → last_halted (made + k) s ≡ last_halted k s'
  same_halt on k = sym (halted_after k made s on) ∙ ap (last_halted k) before ∙ halted_behind k typed s'

  turns_then : s'.turns ≡ made + s.turns
  turns_then = ap (λ (x : State). x.turns) first.state ∙ take_turns (after_turns made s) ∙ turns_count made s

  none_halts : (asked : Bool) (n k : ℕ) (typed2 : List ℕ) (pc : ℕ) (s'' : State) → last_halted made s ≡ false → Made asked n k typed2 pc s' s'' → (j : ℕ) → j < made + k → last_halted j s ≡ false
  none_halts asked n k typed2 pc s'' on next j below =
      elim (cases_lt j made) [
        | inl early ↦ first.ran j early
        | inr late ↦
            let i : ℕ = j - made in
            let number : made + i ≡ j = omega (arith, late) in
            subst (λ m. last_halted m s ≡ false) number (same_halt on i ∙ ran_on asked n s' i (omega (arith, late, below, next.made)))
      ]

  pub merged_more : (asked : Bool) (n k : ℕ) (typed2 : List ℕ) (pc : ℕ) (s'' : State) → last_halted made s ≡ false → made + n ≤ 100000000 → Made asked n k typed2 pc s' s'' → Merged (made + k) (typed ++ typed2) s s''
  merged_more asked n k typed2 pc s'' on few next =
      let most : k ≤ n = omega (arith, next.made, within asked n s') in
      let limits = within_limits n s' next.free in
      record {
        state = next.state ∙ sym (take_behind typed (after_turns k s')) ∙ ap take_typed_of (sym (further k));
        text = ap (λ (x : State). x.bus.typed) (further k) ∙ ap (λ (t : List ℕ). typed ++ t) next.text;
        ran = none_halts asked n k typed2 pc s'' on next;
        few = omega (arith, few, most);
        early = λ some. omega (arith, limits.1, most, turns_then);
      }

  pub same_halts : last_halted made s ≡ false → (k : ℕ) → last_halted k s' ≡ false → last_halted (made + k) s ≡ false
  same_halts on k e = same_halt on k ∙ e

-- the run is a step of its turns
pub merged_steps : (A : Type 0) (made : ℕ) (typed : List ℕ) (s s' : State) → 0 < made → Merged made typed s s' → (other : StopReason) × CommandStep {A = A} s (commands.Step made) (answers.Stop typed other made (after_turns made s).processor.registers.pc) s'
merged_steps A made typed s s' some run =
    as_step A made typed (after_turns made s).processor.registers.pc s s' (may_run made s some run.few (run.early some)) run.ran run.state run.text refl

-- no turn was made
pub still_there : (typed : List ℕ) (s s' : State) → s.bus.typed ≡ [] → Merged 0 typed s s' → (s' ≡ s) × (typed ≡ [])
unfolding after_turns
still_there typed s s' none run = (run.state ∙ sym (taken_none s none), sym run.text ∙ none)

-- WHETHER A RUN HALTED

-- reasons for which a machine that hasn't halted stops
abbrev pub runs_on : StopReason → Bool
runs_on reasons.Turns = true
runs_on reasons.Idle = true
runs_on _ = false

abbrev stop_reason : {A : Type 0} → Answer A → StopReason
stop_reason (answers.Stop typed reason turns pc) = reason
stop_reason _ = reasons.Halt

abbrev stop_turns : {A : Type 0} → Answer A → ℕ
stop_turns (answers.Stop typed reason turns pc) = turns
stop_turns _ = 0

not_halt : (halted : Bool) (other : StopReason) → runs_on (if halted then reasons.Halt else other) ≡ true → halted ≡ false
not_halt true other e = cc
not_halt false other e = refl

ends_running : (n k : ℕ) (s : State) → runs_on (reason_of n k s) ≡ true → last_halted k s ≡ false
unfolding reason_of
ends_running n k s e = not_halt (last_halted k s) _ e

whole_on : {A : Type 0} (asked : Bool) (n : ℕ) (typed : List ℕ) (reason : StopReason) (k pc : ℕ) (s s' : State) → runs_on reason ≡ true → ◌≡◌ {A = State × Answer A} (whole_run asked n s) (s', answers.Stop typed reason k pc) → last_halted k s ≡ false
unfolding whole_run
whole_on {A} asked n typed reason k pc s s' on stops =
    let turns : turns_made asked n s ≡ k = ap (λ (r : State × Answer A). stop_turns r.1) stops in
    let why : reason_of n (turns_made asked n s) s ≡ reason = ap (λ (r : State × Answer A). stop_reason r.1) stops in
    subst (λ m. last_halted m s ≡ false) turns (ends_running n (turns_made asked n s) s (ap runs_on why ∙ on))

no_memory : runs_on reasons.Memory ≡ true → ⊥
no_memory e = cc

on_by : {A : Type 0} (asked : Bool) (n : ℕ) (typed : List ℕ) (reason : StopReason) (k pc : ℕ) (s s' : State) (fault : Option Fault) → step_fault n s ≡ fault → runs_on reason ≡ true → CommandStep {A = A} s (run_command asked n) (answers.Stop typed reason k pc) s' → last_halted k s ≡ false
on_by {A} asked n typed reason k pc s s' None free on (inl same) = whole_on {A = A} asked n typed reason k pc s s' on (sym (by_fault A asked n s None free) ∙ same)
on_by {A} asked n typed reason k pc s s' (Some f) e on (inl same) =
    absurd (no_stop {A = A} typed reason k pc f (sym (ap (λ r. r.1) (sym (by_fault A asked n s (Some f) e) ∙ same))))
on_by {A} asked n typed reason k pc s s' fault e on (inr (inl h)) = absurd (no_stop {A = A} typed reason k pc _ h.1.0)
on_by {A} asked n typed reason k pc s s' fault e on (inr (inr h)) =
    absurd (no_memory (ap (λ (r : State × Answer A). runs_on (stop_reason r.1)) h.3 ∙ on))

pub run_goes_on : {A : Type 0} (asked : Bool) (n : ℕ) (typed : List ℕ) (reason : StopReason) (k pc : ℕ) (s s' : State) → runs_on reason ≡ true → CommandStep {A = A} s (run_command asked n) (answers.Stop typed reason k pc) s' → last_halted k s ≡ false
run_goes_on {A} asked n typed reason k pc s s' on h = on_by {A = A} asked n typed reason k pc s s' (step_fault n s) refl on h
