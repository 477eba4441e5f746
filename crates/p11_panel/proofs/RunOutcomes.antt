-- A run is the outcome of the command that asks for it, or stops for want of memory before that.
use Rattle.std.proofs.Common.{◌≡◌, ℕ, zero, suc, ◌+◌, ◌<◌, ◌≤◌, Bool, true, false, ◌||◌, ◌==◌, if◌then◌else◌, Option, Some, None, MatchOption, ◌⊎◌, refl, ap, subst, sym, ◌∙◌, arith, inl, inr}
use Rattle.std.proofs.lemmas.Bool.{cases_Bool, cases_lt}
use Rattle.std.specs.Prelude.{find}
use Rattle.std.specs.List.{range_with_len}
use Rattle.std.specs.Option.{option_map_or}
use Rattle.p11_lines.specs.declared.answer.Answer.{Answer}
use Rattle.p11_lines.specs.declared.answer.Answer.TheVariants as answers
use Rattle.p11_lines.specs.declared.answer.StopReason.{StopReason}
use Rattle.p11_lines.specs.declared.answer.StopReason.TheVariants as reasons
use Rattle.p11_cpu.specs.State.{State}
use Rattle.p11_cpu.specs.OperatorDevices.{take_typed_of}
use Rattle.p11_cpu.specs.Prepared.{needs_memory}
use Rattle.p11_cpu.specs.Turns.{after_turns}
use Rattle.p11_panel.specs.Calls.Runs.{stops_idling, stop_of, IsMemory, IsRun, run_command}
use Rattle.p11_panel.specs.Commands.{outcome, turns_in, CommandStep}
use Rattle.p11_panel.specs.Refusals.{unless}
use Rattle.p11_panel.specs.Runs.{step_fault, last_halted, ends_after, turns_made, reason_of, stopped, whole_run}

-- THE FIRST NUMBER OF A RANGE AT WHICH A TEST HOLDS

shift : (a i : ℕ) → a + suc i ≡ a + 1 + i
shift a i = omega arith

at_once : (a : ℕ) → a + 0 ≡ a
at_once a = omega arith

from_none : (i : ℕ) → i ≡ 0 + i
from_none i = omega arith

not_here : (p : ℕ → Bool) (a i : ℕ) → 0 < i → ((j : ℕ) → j < i → p (a + j) ≡ false) → p a ≡ false
not_here p a i some before = subst (λ k. p k ≡ false) (at_once a) (before 0 some)

not_later : (p : ℕ → Bool) (a i : ℕ) → ((j : ℕ) → j < suc i → p (a + j) ≡ false) → (j : ℕ) → j < i → p (a + 1 + j) ≡ false
not_later p a i before j below = subst (λ k. p k ≡ false) (shift a j) (before (suc j) (omega (arith, below)))

first_is : (p : ℕ → Bool) (a n i : ℕ) → i < n → ((j : ℕ) → j < i → p (a + j) ≡ false) → p (a + i) ≡ true → find p (range_with_len a n) ≡ Some (a + i)
first_is p a zero i below before here = absurd (omega (arith, below))
first_is p a (suc n) zero below before here =
    let now : p a ≡ true = subst (λ k. p k ≡ true) (at_once a) here in
    rw now (ap Some (sym (at_once a)))
first_is p a (suc n) (suc i) below before here =
    rw (not_here p a (suc i) (omega arith) before)
    (first_is p (a + 1) n i (omega (arith, below)) (not_later p a i before) (subst (λ k. p k ≡ true) (shift a i) here) ∙ ap Some (sym (shift a i)))

none_is : (p : ℕ → Bool) (a n : ℕ) → ((j : ℕ) → j < n → p (a + j) ≡ false) → find p (range_with_len a n) ≡ None
none_is p a zero before = refl
none_is p a (suc n) before = rw (not_here p a (suc n) (omega arith) before) (none_is p (a + 1) n (not_later p a n before))

-- the first number, or another where there is none
first_or : (ℕ → Bool) → ℕ → ℕ → ℕ → ℕ
first_or p a n other = option_map_or (λ k. k) (find p (range_with_len a n)) other

at_least : (p : ℕ → Bool) (a n other : ℕ) → a + n ≤ other → a ≤ first_or p a n other
unfolding first_or
at_least p a zero other within = omega (arith, within)
at_least p a (suc n) other within =
    elim (cases_Bool (p a)) [
      | inl now ↦ rw now (omega arith)
      | inr later ↦
          let rest : a + 1 ≤ first_or p (a + 1) n other = at_least p (a + 1) n other (omega (arith, within)) in
          rw later (omega (arith, rest))
    ]

comes_later : (p : ℕ → Bool) (a n i other : ℕ) → i < n → ((j : ℕ) → j < suc i → p (a + j) ≡ false) → a + n ≤ other → a + i < first_or p a n other
unfolding first_or
comes_later p a zero i other below before within = absurd (omega (arith, below))
comes_later p a (suc n) zero other below before within =
    let rest : a + 1 ≤ first_or p (a + 1) n other = at_least p (a + 1) n other (omega (arith, within)) in
    rw (not_here p a 1 (omega arith) before) (omega (arith, rest))
comes_later p a (suc n) (suc i) other below before within =
    let rest : a + 1 + i < first_or p (a + 1) n other = comes_later p (a + 1) n i other (omega (arith, below)) (not_later p a (suc i) before) (omega (arith, within)) in
    rw (not_here p a (suc (suc i)) (omega arith) before) (omega (arith, rest))

-- THE TESTS OF A RUN

-- no test holds
none_holds : (halted made idle : Bool) → ◌≡◌ {A = Option StopReason} (if halted then Some reasons.Halt else (if made then Some reasons.Turns else (if idle then Some reasons.Idle else None))) None → ((halted || idle) ≡ false) × (made ≡ false)
none_holds true made idle e = absurd cc
none_holds false true idle e = absurd cc
none_holds false false true e = absurd cc
none_holds false false false e = (refl, refl)

-- the first that holds is the reason; or none does
first_holds : (halted made idle : Bool) (reason : StopReason) (M : Type 0) → MatchOption (if halted then Some reasons.Halt else (if made then Some reasons.Turns else (if idle then Some reasons.Idle else None))) M (λ first. reason ≡ first)
    → ((((halted || idle) ≡ true) ⊎ (made ≡ true)) × (reason ≡ if halted then reasons.Halt else (if made then reasons.Turns else reasons.Idle)))
    ⊎ (((halted || idle) ≡ false) × (made ≡ false) × M)
first_holds true made idle reason M h = inl (inl refl, h)
first_holds false true idle reason M h = inl (inr refl, h)
first_holds false false true reason M h = inl (inl refl, h)
first_holds false false false reason M h = inr (refl, refl, h)

not_both : (b : Bool) → b ≡ true → b ≡ false → ⊥
not_both b e f = cc

module _ (until_idle : Bool) (n : ℕ) (s : State) where
  goes_past : (k : ℕ) → stop_of (stops_idling until_idle) n k s ≡ None → (ends_after until_idle s k ≡ false) × ((k == n) ≡ false)
  unfolding stop_of ends_after
  goes_past k none = none_holds (last_halted k s) (k == n) (stops_idling until_idle (after_turns k s)) none

  stops_now : (k : ℕ) (reason : StopReason) (M : Type 0) → MatchOption (stop_of (stops_idling until_idle) n k s) M (λ first. reason ≡ first)
      → (((ends_after until_idle s k ≡ true) ⊎ ((k == n) ≡ true)) × (reason ≡ reason_of n k s)) ⊎ ((ends_after until_idle s k ≡ false) × ((k == n) ≡ false) × M)
  unfolding stop_of ends_after reason_of
  stops_now k reason M h = first_holds (last_halted k s) (k == n) (stops_idling until_idle (after_turns k s)) reason M h

  -- no run makes more turns than it is asked for
  at_most : (k : ℕ) → ((j : ℕ) → j < k → stop_of (stops_idling until_idle) n j s ≡ None) → k ≤ n
  at_most k goes_on =
      elim (cases_lt n k) [
        | inl past ↦
            let same : (n == n) ≡ true = grind arith in
            absurd (not_both (n == n) same (goes_past n (goes_on n past)).1)
        | inr within ↦ within
      ]

  fewer : (k : ℕ) → k ≤ n → (k == n) ≡ false → k < n
  fewer k within other =
      elim (cases_lt k n) [
        | inl below ↦ below
        | inr above ↦
            let same : (k == n) ≡ true = grind (arith, within, above) in
            absurd (not_both (k == n) same other)
      ]

  before : (k : ℕ) → ((j : ℕ) → j < k → stop_of (stops_idling until_idle) n j s ≡ None) → (j : ℕ) → j < k → ends_after until_idle s (0 + j) ≡ false
  before k goes_on j below = subst (λ i. ends_after until_idle s i ≡ false) (from_none j) (goes_past j (goes_on j below)).0

  -- the turns of a run that something ends, or all
  makes_all : (k : ℕ) → ((j : ℕ) → j < k → stop_of (stops_idling until_idle) n j s ≡ None) → (ends_after until_idle s k ≡ true) ⊎ ((k == n) ≡ true) → k ≡ turns_made until_idle n s
  unfolding turns_made
  makes_all k goes_on ends =
      elim (cases_lt k n) [
        | inl below ↦
            let other : (k == n) ≡ false = grind (arith, below) in
            let here : ends_after until_idle s k ≡ true = elim ends [ inl now ↦ now | inr made ↦ absurd (not_both (k == n) made other) ] in
            let first : find (ends_after until_idle s) (range_with_len 0 n) ≡ Some (0 + k) = first_is (ends_after until_idle s) 0 n k below (before k goes_on) (subst (λ i. ends_after until_idle s i ≡ true) (from_none k) here) in
            from_none k ∙ sym (ap (λ (o : Option ℕ). option_map_or (λ k. k) o n) first)
        | inr above ↦
            let all : k ≡ n = omega (arith, above, at_most k goes_on) in
            let none : find (ends_after until_idle s) (range_with_len 0 n) ≡ None = none_is (ends_after until_idle s) 0 n (subst (λ m. (j : ℕ) → j < m → ends_after until_idle s (0 + j) ≡ false) all (before k goes_on)) in
            all ∙ sym (ap (λ (o : Option ℕ). option_map_or (λ k. k) o n) none)
      ]

  -- those of one that nothing ended yet
  makes_fewer : (k : ℕ) → ((j : ℕ) → j < k → stop_of (stops_idling until_idle) n j s ≡ None) → ends_after until_idle s k ≡ false → (k == n) ≡ false → k < turns_made until_idle n s
  unfolding turns_made first_or
  makes_fewer k goes_on running other =
      let later = comes_later (ends_after until_idle s) 0 n k n (fewer k (at_most k goes_on) other)
      (λ j below. elim (cases_lt j k) [
        | inl earlier ↦ before k goes_on j earlier
        | inr now ↦ let same : k ≡ 0 + j = omega (arith, below, now) in subst (λ i. ends_after until_idle s i ≡ false) same running
      ]) (omega arith) in
      subst (λ i. i < turns_made until_idle n s) (sym (from_none k)) later

-- THE COMMAND

-- it has its outcome, or memory stops it, whether it is asked to stop where the machine idles or isn't
by_outcome : {A : Type 0} (until_idle : Bool) (n : ℕ) (s : State) (answer : Answer A) (s' : State) → step_fault n s ≡ None → whole_run until_idle n s ≡ (s', answer) → CommandStep s (run_command until_idle n) answer s'
by_outcome true n s answer s' free whole = inl (ap (λ fault. unless fault s (whole_run true n s)) free ∙ whole)
by_outcome false n s answer s' free whole = inl (ap (λ fault. unless fault s (whole_run false n s)) free ∙ whole)

whole_turns : (A : Type 0) (until_idle : Bool) (n : ℕ) (s : State) → turns_in {A = A} (whole_run until_idle n s).1 ≡ turns_made until_idle n s
unfolding whole_run
whole_turns A until_idle n s = refl

by_memory : {A : Type 0} (until_idle : Bool) (n k : ℕ) (s : State) (answer : Answer A) (s' : State) → step_fault n s ≡ None → k < turns_made until_idle n s → needs_memory (after_turns k s) ≡ true → stopped reasons.Memory k (after_turns k s) ≡ (s', answer) → CommandStep s (run_command until_idle n) answer s'
by_memory {A} true n k s answer s' free below needs stops =
    let turns : turns_in (outcome {A = A} (run_command true n) s).1 ≡ turns_made true n s = ap (λ fault. turns_in (unless fault s (whole_run {A = A} true n s)).1) free ∙ whole_turns A true n s in
    inr (inr (k, subst (λ m. k < m) (sym turns) below, needs, stops))
by_memory {A} false n k s answer s' free below needs stops =
    let turns : turns_in (outcome {A = A} (run_command false n) s).1 ≡ turns_made false n s = ap (λ fault. turns_in (unless fault s (whole_run {A = A} false n s)).1) free ∙ whole_turns A false n s in
    inr (inr (k, subst (λ m. k < m) (sym turns) below, needs, stops))

whole : {A : Type 0} (until_idle : Bool) (n k : ℕ) (s : State) (reason : StopReason) (answer : Answer A) (s' : State) → k ≡ turns_made until_idle n s → reason ≡ reason_of n k s → stopped reason k (after_turns k s) ≡ (s', answer) → whole_run until_idle n s ≡ (s', answer)
unfolding whole_run
whole until_idle n k s reason answer s' all why stops =
    ap (λ m. stopped (reason_of n m s) m (after_turns m s)) (sym all) ∙ ap (λ r. stopped r k (after_turns k s)) (sym why) ∙ stops

-- what a run that stopped answers, and the state that it comes to
pub stopped_as : {A : Type 0} (reason : StopReason) (k : ℕ) (last s' : State) (answer : Answer A) → s' ≡ take_typed_of last → answers.Stop last.bus.typed reason k last.processor.registers.pc ≡ answer → stopped reason k last ≡ (s', answer)
stopped_as {A} reason k last s' answer same shown =
    let state : ◌≡◌ {A = State × Answer A} (take_typed_of last, answers.Stop last.bus.typed reason k last.processor.registers.pc) (s', answers.Stop last.bus.typed reason k last.processor.registers.pc) = ap (λ (x : State). (x, answers.Stop last.bus.typed reason k last.processor.registers.pc)) (sym same) in
    state ∙ ap (λ (a : Answer A). (s', a)) shown

-- a run of as many turns as the command asks for, and the answer
pub run_steps : {A : Type 0} (until_idle : Bool) (n k : ℕ) (s : State) (reason : StopReason) (last : State) (answer : Answer A) (s' : State) → step_fault n s ≡ None → IsRun (stops_idling until_idle) n s k reason last → stopped reason k last ≡ (s', answer) → CommandStep s (run_command until_idle n) answer s'
run_steps {A} until_idle n k s reason last answer s' free run ends =
    let here : stopped reason k (after_turns k s) ≡ (s', answer) = ap (λ (x : State). stopped {A = A} reason k x) (sym run.state) ∙ ends in
    elim (stops_now until_idle n s k reason (IsMemory reason last) run.stops) [
      | inl (stops, why) ↦ by_outcome until_idle n s answer s' free (whole until_idle n k s reason answer s' (makes_all until_idle n s k run.goes_on stops) why here)
      | inr (running, other, memory) ↦
          by_memory until_idle n k s answer s' free (makes_fewer until_idle n s k run.goes_on running other)
          (subst (λ (x : State). needs_memory x ≡ true) run.state memory.1)
          (ap (λ r. stopped {A = A} r k (after_turns k s)) (sym memory.0) ∙ here)
    ]

-- A RUN MAKES NO MORE TURNS THAN IT IS ASKED FOR

stops_at_last : (idles : State → Bool) (n : ℕ) (s : State) → stop_of idles n n s ≡ None → ⊥
unfolding stop_of
stops_at_last idles n s e =
    let same : (n == n) ≡ true = grind arith in
    elim (cases_Bool (last_halted n s)) [
      | inl now ↦ grind (arith, e, same, now)
      | inr not ↦ grind (arith, e, same, not)
    ]

pub run_within : (idles : State → Bool) (n k : ℕ) (s s' : State) (reason : StopReason) → IsRun idles n s k reason s' → k ≤ n
run_within idles n k s s' reason run =
    elim (cases_lt n k) [
      | inl more ↦ absurd (stops_at_last idles n s (run.goes_on n more))
      | inr most ↦ omega (arith, most)
    ]
