-- One more turn of a run.
use Rattle.std.proofs.Common.{◌≡◌, ℕ, zero, suc, ◌+◌, ◌-◌, ◌<◌, ◌≤◌, Bool, true, false, ◌==◌, Option, Some, None, MatchOption, Result, Ok, Err, refl, ap, subst, sym, ◌∙◌, arith, inl, inr}
use Rattle.std.proofs.lemmas.Bool.{cases_lt, lt-ltb}
use Rattle.std.specs.Result.{IsOk, is_err}
use Rattle.p11_lines.specs.declared.answer.StopReason.{StopReason}
use Rattle.p11_lines.specs.declared.answer.StopReason.TheVariants as reasons
use Rattle.p11_cpu.specs.Calls.QuietTurns.{FollowThere, IsBusy, TakeThere}
use Rattle.p11_cpu.specs.Calls.WaitingTurns.{WaitThere}
use Rattle.p11_cpu.specs.OperatorDevices.{is_idle}
use Rattle.p11_cpu.specs.State.{State}
use Rattle.p11_cpu.specs.Prepared.{needs_memory}
use Rattle.p11_cpu.specs.Turns.{after_turns, turn_of}
use Rattle.p11_panel.specs.Calls.Runs.{stops_idling, stop_of, IsMemory, IsRun}
use Rattle.p11_panel.specs.Runs.{last_halted}

-- k turns of a run of n are made, none of them halted, and no fewer stopped it
pub record Goes (idles : State → Bool) (n : ℕ) (s : State) (k : ℕ) (s' : State) : Type 0 where
  pub state : s' ≡ after_turns k s
  pub ran : last_halted k s ≡ false
  pub goes_on : (j : ℕ) → j < k → stop_of idles n j s ≡ None

pub no_turn : (idles : State → Bool) (n : ℕ) (s : State) → Goes idles n s 0 s
unfolding after_turns last_halted
no_turn idles n s = record { state = refl; ran = refl; goes_on = λ j h. absurd (omega arith) }

pub goes_is : (idles : State → Bool) (n k : ℕ) (s s' z : State) → z ≡ s' → Goes idles n s k s' → Goes idles n s k z
goes_is idles n k s s' z same goes = record { state = same ∙ goes.state; ran = goes.ran; goes_on = goes.goes_on }

-- the run isn't over
not_over : (idles : State → Bool) (n k : ℕ) (s s' : State) → k < n → idles s' ≡ false → Goes idles n s k s' → stop_of idles n k s ≡ None
unfolding stop_of
not_over idles n k s s' h busy goes =
    let other : (k == n) ≡ false = grind (arith, h) in
    let here : idles (after_turns k s) ≡ false = subst (λ (x : State). idles x ≡ false) goes.state busy in
    rw (goes.ran, other, here) refl

not_yet : (idles : State → Bool) (n k : ℕ) (s s' : State) → k < n → idles s' ≡ false → Goes idles n s k s' → (j : ℕ) → j < k + 1 → stop_of idles n j s ≡ None
not_yet idles n k s s' h busy goes j below =
    elim (cases_lt j k) [
      | inl earlier ↦ goes.goes_on j earlier
      | inr now ↦
          let same : j ≡ k = omega arith in
          rw same (not_over idles n k s s' h busy goes)
    ]

-- what stops a run is its reason
stops_by : (idles : State → Bool) (n k : ℕ) (s s' : State) (reason : StopReason) → stop_of idles n k s ≡ Some reason → MatchOption (stop_of idles n k s) (IsMemory reason s') (λ first. reason ≡ first)
stops_by idles n k s s' reason e = subst (λ (o : Option StopReason). MatchOption o (IsMemory reason s') (λ first. reason ≡ first)) (sym e) refl

stop_halted : (idles : State → Bool) (n k : ℕ) (s : State) → last_halted k s ≡ true → stop_of idles n k s ≡ Some reasons.Halt
unfolding stop_of
stop_halted idles n k s e = rw e refl

stop_made : (idles : State → Bool) (n : ℕ) (s : State) → last_halted n s ≡ false → stop_of idles n n s ≡ Some reasons.Turns
unfolding stop_of
stop_made idles n s e =
    let same : (n == n) ≡ true = grind arith in
    rw (e, same) refl

stop_idle : (idles : State → Bool) (n k : ℕ) (s s' : State) → k < n → idles s' ≡ true → Goes idles n s k s' → stop_of idles n k s ≡ Some reasons.Idle
unfolding stop_of
stop_idle idles n k s s' h idle goes =
    let other : (k == n) ≡ false = grind (arith, h) in
    let here : idles (after_turns k s) ≡ true = subst (λ (x : State). idles x ≡ true) goes.state idle in
    rw (goes.ran, other, here) refl

-- all turns are made
pub all_made : (idles : State → Bool) (n k : ℕ) (s s' : State) → k ≡ n → Goes idles n s k s' → IsRun idles n s n reasons.Turns s'
all_made idles n k s s' e goes =
    let P : ℕ → Type 0 = λ m. Goes idles n s m s' in
    let here : Goes idles n s n s' = subst P e goes in
    record {
      state = here.state;
      stops = stops_by idles n n s s' reasons.Turns (stop_made idles n s here.ran);
      goes_on = here.goes_on;
    }

-- the machine idles
pub idle_now : (idles : State → Bool) (n k : ℕ) (s s' : State) → k < n → idles s' ≡ true → Goes idles n s k s' → IsRun idles n s k reasons.Idle s'
idle_now idles n k s s' h idle goes =
    record {
      state = goes.state;
      stops = stops_by idles n k s s' reasons.Idle (stop_idle idles n k s s' h idle goes);
      goes_on = goes.goes_on;
    }

-- the next turn wants memory
pub no_memory : (idles : State → Bool) (n k : ℕ) (s s' z : State) → k < n → idles s' ≡ false → z ≡ s' → needs_memory s' ≡ true → Goes idles n s k s' → IsRun idles n s k reasons.Memory z
no_memory idles n k s s' z h busy same needs goes =
    record {
      state = same ∙ goes.state;
      stops = subst (λ (o : Option StopReason). MatchOption o (IsMemory reasons.Memory z) (λ first. reasons.Memory ≡ first)) (sym (not_over idles n k s s' h busy goes))
          (refl, subst (λ (x : State). needs_memory x ≡ true) (sym same) needs);
      goes_on = goes.goes_on;
    }

err_not_ok : (T : Type 0) {E : Type 0} (e : E) → IsOk {T = T} (Err e) → ⊥
err_not_ok T e h = cc

-- a call that fails was one that might
pub needs_by : {T E : Type 0} (b : Bool) (r : Result T E) → (b ≡ false → IsOk r) → is_err r ≡ true → b ≡ true
needs_by true r needless failed = refl
needs_by false (Ok v) needless failed = cc
needs_by {T} false (Err e) needless failed = absurd (err_not_ok T e (needless refl))

-- MANY TURNS AT ONCE

pub turns_after : (j k : ℕ) (s : State) → after_turns j (after_turns k s) ≡ after_turns (k + j) s
unfolding after_turns
turns_after zero k s =
    let none : k ≡ k + 0 = omega arith in
    ap (λ n. after_turns n s) none
turns_after (suc j) k s =
    let number : suc (k + j) ≡ k + suc j = omega arith in
    ap (λ x. (turn_of x).0) (turns_after j k s) ∙ ap (λ n. after_turns n s) number

-- a run whose machine hasn't halted isn't over for that
not_halted : (k : ℕ) (s : State) → (after_turns k s).processor.halted ≡ false → last_halted k s ≡ false
unfolding after_turns last_halted
not_halted zero s h = refl
not_halted (suc k) s h = rw (lt-ltb 0 (suc k) (omega arith)) h

has_halted : (k : ℕ) (s : State) → 0 < k → (after_turns k s).processor.halted ≡ true → last_halted k s ≡ true
unfolding after_turns last_halted
has_halted zero s below h = absurd (omega (arith, below))
has_halted (suc k) s below h = rw (lt-ltb 0 (suc k) (omega arith)) h

-- a processor that doesn't wait doesn't idle
works_on : (asked : Bool) (s : State) → IsBusy s.processor → stops_idling asked s ≡ false
unfolding is_idle
works_on true s busy = rw busy.working refl
works_on false s busy = refl

-- a run isn't over where its machine neither has halted nor stops it for idling
runs_on : (asked : Bool) (n k : ℕ) (s : State) → k < n → (after_turns k s).processor.halted ≡ false → stops_idling asked (after_turns k s) ≡ false → stop_of (stops_idling asked) n k s ≡ None
unfolding stop_of
runs_on asked n k s h running busy =
    let other : (k == n) ≡ false = grind (arith, h) in
    rw (not_halted k s running, other, busy) refl

busy_goes_on : (asked : Bool) (n k : ℕ) (s : State) → k < n → IsBusy (after_turns k s).processor → stop_of (stops_idling asked) n k s ≡ None
busy_goes_on asked n k s h busy = runs_on asked n k s h busy.running (works_on asked (after_turns k s) busy)

-- so many turns more take the machine there, and before none of them the run is over
pub record Further (asked : Bool) (n : ℕ) (s : State) (k : ℕ) (z : State) : Type 0 where
  pub state : z ≡ after_turns k s
  pub goes_on : (j : ℕ) → j < k → stop_of (stops_idling asked) n j s ≡ None

taken_there : (asked : Bool) (n made k : ℕ) (s s' z : State) → Goes (stops_idling asked) n s made s' → z ≡ after_turns k s' → z ≡ after_turns (made + k) s
taken_there asked n made k s s' z goes there = there ∙ ap (after_turns k) goes.state ∙ turns_after k made s

busy_at : (asked : Bool) (n made i : ℕ) (s s' : State) → Goes (stops_idling asked) n s made s' → IsBusy (after_turns i s').processor → IsBusy (after_turns (made + i) s).processor
busy_at asked n made i s s' goes busy =
    subst (λ (x : State). IsBusy x.processor) (ap (after_turns i) goes.state ∙ turns_after i made s) busy

-- before each of them the processor is busy
none_stops : (asked : Bool) (n made k : ℕ) (s s' z : State) → made + k ≤ n → Goes (stops_idling asked) n s made s' → TakeThere k s' z → (j : ℕ) → j < made + k → stop_of (stops_idling asked) n j s ≡ None
none_stops asked n made k s s' z h goes there j below =
    elim (cases_lt j made) [
      | inl earlier ↦ goes.goes_on j earlier
      | inr later ↦
          let number : made + (j - made) ≡ j = omega (arith, later) in
          let within : j - made < k = omega (arith, later, below) in
          busy_goes_on asked n j s (omega (arith, h, below))
          (subst (λ i. IsBusy (after_turns i s).processor) number (busy_at asked n made (j - made) s s' goes (there.busy (j - made) within)))
    ]

pub quiet_further : (asked : Bool) (n made k : ℕ) (s s' z : State) → made + k ≤ n → Goes (stops_idling asked) n s made s' → TakeThere k s' z → Further asked n s (made + k) z
quiet_further asked n made k s s' z h goes there =
    record { state = taken_there asked n made k s s' z goes there.state; goes_on = none_stops asked n made k s s' z h goes there }

-- before the first of them the machine doesn't idle, and before each other the processor is busy
none_stops_behind : (asked : Bool) (n made k : ℕ) (s s' z : State) → made < n → made + k ≤ n → stops_idling asked s' ≡ false → Goes (stops_idling asked) n s made s' → FollowThere k s' z → (j : ℕ) → j < made + k → stop_of (stops_idling asked) n j s ≡ None
none_stops_behind asked n made k s s' z some h busy goes there j below =
    elim (cases_lt j (made + 1)) [
      | inl earlier ↦ not_yet (stops_idling asked) n made s s' some busy goes j earlier
      | inr later ↦
          let number : made + suc (j - made - 1) ≡ j = omega (arith, later) in
          let within : suc (j - made - 1) < k = omega (arith, later, below) in
          busy_goes_on asked n j s (omega (arith, h, below))
          (subst (λ i. IsBusy (after_turns i s).processor) number (busy_at asked n made (suc (j - made - 1)) s s' goes (there.busy (j - made - 1) within)))
    ]

pub follow_further : (asked : Bool) (n made k : ℕ) (s s' z : State) → made < n → made + k ≤ n → stops_idling asked s' ≡ false → Goes (stops_idling asked) n s made s' → FollowThere k s' z → Further asked n s (made + k) z
follow_further asked n made k s s' z some h busy goes there =
    record { state = taken_there asked n made k s s' z goes there.state; goes_on = none_stops_behind asked n made k s s' z some h busy goes there }

-- while the processor waits, the machine neither halts nor begins to idle
waits_running : (i k : ℕ) (s z : State) → i ≤ k → 0 < k → WaitThere k s z → (after_turns i s).processor.halted ≡ false
waits_running i k s z within some there = ap (λ (x : State). x.processor.halted) (there.counted i within) ∙ (there.waits some).running

pub waited_running : (k : ℕ) (s z : State) → 0 < k → WaitThere k s z → z.processor.halted ≡ false
waited_running k s z some there = ap (λ (x : State). x.processor.halted) there.state ∙ waits_running k k s z (omega arith) some there

waits_busy : (asked : Bool) (i k : ℕ) (s z : State) → i < k → stops_idling asked s ≡ false → WaitThere k s z → stops_idling asked (after_turns i s) ≡ false
waits_busy true i k s z below busy there = there.idles i below ∙ busy
waits_busy false i k s z below busy there = refl

none_stops_waiting : (asked : Bool) (n made k : ℕ) (s s' z : State) → made + k ≤ n → stops_idling asked s' ≡ false → Goes (stops_idling asked) n s made s' → WaitThere k s' z → (j : ℕ) → j < made + k → stop_of (stops_idling asked) n j s ≡ None
none_stops_waiting asked n made k s s' z h busy goes there j below =
    elim (cases_lt j made) [
      | inl earlier ↦ goes.goes_on j earlier
      | inr later ↦
          let number : made + (j - made) ≡ j = omega (arith, later) in
          let within : j - made < k = omega (arith, later, below) in
          let at : after_turns (j - made) s' ≡ after_turns j s = ap (after_turns (j - made)) goes.state ∙ turns_after (j - made) made s ∙ ap (λ i. after_turns i s) number in
          runs_on asked n j s (omega (arith, h, below))
          (subst (λ (x : State). x.processor.halted ≡ false) at (waits_running (j - made) k s' z (omega (arith, within)) (omega (arith, within)) there))
          (subst (λ (x : State). stops_idling asked x ≡ false) at (waits_busy asked (j - made) k s' z within busy there))
    ]

pub wait_further : (asked : Bool) (n made k : ℕ) (s s' z : State) → made + k ≤ n → stops_idling asked s' ≡ false → Goes (stops_idling asked) n s made s' → WaitThere k s' z → Further asked n s (made + k) z
wait_further asked n made k s s' z h busy goes there =
    record { state = taken_there asked n made k s s' z goes there.state; goes_on = none_stops_waiting asked n made k s s' z h busy goes there }

-- after them the machine hasn't halted
pub many_more : (asked : Bool) (n k : ℕ) (s z : State) → Further asked n s k z → z.processor.halted ≡ false → Goes (stops_idling asked) n s k z
many_more asked n k s z there running =
    record {
      state = there.state;
      ran = not_halted k s (subst (λ (x : State). x.processor.halted ≡ false) there.state running);
      goes_on = there.goes_on;
    }

-- the last of them halts
pub many_that_halt : (asked : Bool) (n k : ℕ) (s z : State) → 0 < k → Further asked n s k z → z.processor.halted ≡ true → IsRun (stops_idling asked) n s k reasons.Halt z
many_that_halt asked n k s z some there halted =
    let last : last_halted k s ≡ true = has_halted k s some (subst (λ (x : State). x.processor.halted ≡ true) there.state halted) in
    record {
      state = there.state;
      stops = stops_by (stops_idling asked) n k s z reasons.Halt (stop_halted (stops_idling asked) n k s last);
      goes_on = there.goes_on;
    }

-- no turn was made
stays_there : (k : ℕ) (s z : State) → k ≡ 0 → z ≡ after_turns k s → z ≡ s
unfolding after_turns
stays_there k s z e there = there ∙ ap (λ i. after_turns i s) e

pub none_more : (asked : Bool) (n made k : ℕ) (s s' z : State) → k ≡ 0 → Goes (stops_idling asked) n s made s' → z ≡ after_turns k s' → Goes (stops_idling asked) n s made z
none_more asked n made k s s' z e goes there =
    goes_is (stops_idling asked) n made s s' z (stays_there k s' z e there) goes

-- none was made, nor was one waited through, and the machine doesn't idle
pub record StillGoes (asked : Bool) (n : ℕ) (s : State) (made : ℕ) (z : State) : Type 0 where
  pub goes : Goes (stops_idling asked) n s made z
  pub busy : stops_idling asked z ≡ false

pub still_goes : (asked : Bool) (n made k i : ℕ) (s s' x z : State) → k ≡ 0 → i ≡ 0 → Goes (stops_idling asked) n s made s' → x ≡ after_turns k s' → stops_idling asked x ≡ false → z ≡ after_turns i x → StillGoes asked n s made z
still_goes asked n made k i s s' x z e f goes there busy here =
    record {
      goes = none_more asked n made i s x z f (none_more asked n made k s s' x e goes there) here;
      busy = subst (λ (y : State). stops_idling asked y ≡ false) (sym (stays_there i x z f here)) busy;
    }
