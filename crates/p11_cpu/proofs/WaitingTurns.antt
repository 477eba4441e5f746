-- Turns in which the processor waits and nothing is done.
use Rattle.std.proofs.Common.{◌≡◌, ◌∙◌, ℕ, zero, suc, ◌+◌, ◌<◌, ◌≤◌, ◌↔◌, Bool, true, false, not, ◌&&◌, cond, Option, Some, None, is_none, is_some, refl, ap, sym, arith}
use Rattle.p11_psw.specs.declared.priority.Priority.{Priority}
use Rattle.p11_unibus.specs.Acts.{bus_after_turn, is_any_due}
use Rattle.p11_unibus.specs.Due.{next_due}
use Rattle.p11_unibus.specs.Laws.Due.{acts_in, IsNextDue, NoneLater}
use Rattle.p11_unibus.specs.Requests.{grant_of, granted, highest_request}
use Rattle.p11_unibus.specs.State.{BusState}
use Rattle.p11_unibus.specs.HostMemory.{Prepared}
use Rattle.p11_unibus.specs.declared.source.Source.{Source}
use Rattle.p11_cpu.specs.Calls.QuietTurns.{hardware_after}
use Rattle.p11_cpu.specs.Calls.WaitingTurns.{IsAtRest, RestsFor, WaitThere, WaitsThrough}
use Rattle.p11_cpu.specs.Kept.OnBus.{with_bus, with_bus_of}
use Rattle.p11_cpu.specs.Kept.Prepared.{with_prepared}
use Rattle.p11_cpu.specs.OperatorDevices.{is_idle}
use Rattle.p11_cpu.specs.State.{HardwareState, State, unprepared}
use Rattle.p11_cpu.specs.Turns.{after_turns, devices_acted, hardware_turn_of, instruction_run, request_granted, served_or_run}
use Rattle.p11_cpu.proofs.QuietRuns.{machine, machine_turns}
use Rattle.p11_cpu.proofs.QuietTurns.{no_mark}

-- THE DEVICES

-- what the bus says of due turns, and of turns in which no device acts
abbrev pub IsFirstAct : Type 0
IsFirstAct = (b : BusState) (turn n : ℕ) → (next_due turn b ≡ Some n) ↔ IsNextDue turn b n

abbrev pub IsNoAct : Type 0
IsNoAct = (b : BusState) (turn : ℕ) → (next_due turn b ≡ None) ↔ NoneLater turn b

abbrev pub NothingChanges : Type 0
NothingChanges = (b : BusState) (turn : ℕ) → acts_in turn b ≡ false → bus_after_turn turn b ≡ b

-- before the next due turn
pub rests_before : IsFirstAct → NothingChanges → (k turn n : ℕ) (b : BusState) (o : Option ℕ) → o ≡ next_due turn b → o ≡ Some n → (turn < n → turn + k < n) → RestsFor k turn b
unfolding is_any_due
rests_before first nothing k turn n b o asked some before =
    let here : next_due turn b ≡ Some n = sym asked ∙ some in
    let next : IsNextDue turn b n = (first b turn n).0 here in
    let within : turn + k < n = before next.later in
    record {
      acts = λ j below. nothing b (turn + suc j) (next.none_between (turn + suc j) (omega arith) (omega (arith, below, within)));
      due = λ j below.
          let still : next_due (turn + j) b ≡ Some n = (first b (turn + j) n).1 (record {
            later = omega (arith, below, within);
            there = next.there;
            none_between = λ t after earlier. next.none_between t (omega (arith, after)) earlier;
          }) in
          ap (λ (d : Option ℕ). is_some d) (still ∙ sym here);
    }

-- where there is none
pub rests_for_ever : IsNoAct → NothingChanges → (k turn : ℕ) (b : BusState) (o : Option ℕ) → o ≡ next_due turn b → o ≡ None → RestsFor k turn b
unfolding is_any_due
rests_for_ever never nothing k turn b o asked none =
    let here : next_due turn b ≡ None = sym asked ∙ none in
    let later : NoneLater turn b = (never b turn).0 here in
    record {
      acts = λ j below. nothing b (turn + suc j) (later (turn + suc j) (omega arith));
      due = λ j below.
          let still : next_due (turn + j) b ≡ None = (never b (turn + j)).1 (λ t after. later t (omega (arith, after))) in
          ap (λ (d : Option ℕ). is_some d) (still ∙ sym here);
    }

-- A TURN

none_granted : (o : Option Source) (b : BusState) → is_none o ≡ true → granted o b ≡ (b, None)
none_granted (Some source) b e = cc e
none_granted None b e = refl

ungranted : (p : Priority) (b : BusState) → is_none (highest_request p b) ≡ true → grant_of p b ≡ (b, None)
unfolding grant_of
ungranted p b e = none_granted (highest_request p b) b e

still : (b : Bool) (one two : HardwareState) → b ≡ true → cond b one two ≡ one
still true one two e = refl
still false one two e = cc e

-- nothing is done in it
rest : (turn : ℕ) (h : HardwareState) → IsAtRest h → bus_after_turn turn h.bus ≡ h.bus → hardware_turn_of turn (with_prepared unprepared h) ≡ h
unfolding hardware_turn_of devices_acted request_granted instruction_run
rest turn h r acts =
    ap (λ (p : Prepared). hardware_turn_of turn (with_prepared p h)) (sym r.unready)
    ∙ ap (λ (x : HardwareState). served_or_run turn (request_granted (devices_acted turn x))) (no_mark h r.waits.running r.within)
    ∙ ap (λ b. served_or_run turn (request_granted (with_bus b h))) acts
    ∙ ap (λ g. served_or_run turn (with_bus_of g h)) (ungranted h.processor.status.priority h.bus r.ungranted)
    ∙ still h.processor.waiting _ _ r.waits.waiting

-- SO MANY

rests_on : (j k turn : ℕ) (h : HardwareState) → j ≤ k → WaitsThrough k turn h → hardware_after j turn h ≡ h
unfolding hardware_after
rests_on zero k turn h within through = refl
rests_on (suc j) k turn h within through =
    ap (λ (x : HardwareState). hardware_turn_of (turn + suc j) (with_prepared unprepared x)) (rests_on j k turn h (omega (arith, within)) through)
    ∙ rest (turn + suc j) h (through.rests (omega (arith, within))) (through.nothing.acts j (omega (arith, within)))

after_each : (j k turn : ℕ) (h : HardwareState) → j ≤ k → WaitsThrough k turn h → after_turns j (machine turn h) ≡ machine (turn + j) h
after_each j k turn h within through =
    machine_turns j turn h ∙ ap (λ (x : HardwareState). machine (turn + j) x) (rests_on j k turn h within through)

idles_there : (turn now : ℕ) (h : HardwareState) → is_any_due now h.bus ≡ is_any_due turn h.bus → is_idle (machine now h) ≡ is_idle (machine turn h)
unfolding is_idle
idles_there turn now h due =
    ap (λ (d : Bool). (h.processor.waiting && not d) && is_none (highest_request h.processor.status.priority h.bus)) due

-- for the machine of this hardware
pub machine_waited : (k turn now : ℕ) (h : HardwareState) → now ≡ turn + k → WaitsThrough k turn h → WaitThere k (machine turn h) (machine now h)
machine_waited k turn now h e through =
    record {
      state = ap (λ n. machine n h) e ∙ sym (after_each k k turn h (omega arith) through);
      waits = λ some. (through.rests some).waits;
      counted = λ j within. after_each j k turn h within through;
      idles = λ j below.
          ap is_idle (after_each j k turn h (omega (arith, below)) through)
          ∙ idles_there turn (turn + j) h (through.nothing.due j below);
    }

none_counted : (j : ℕ) (s : State) → j ≤ 0 → after_turns j s ≡ record s { turns = s.turns + j }
unfolding after_turns
none_counted zero s within =
    let same : s.turns ≡ s.turns + 0 = omega arith in
    ap (λ n. record s { turns = n }) same
none_counted (suc j) s within = absurd (omega (arith, within))

pub none_waited : (s : State) → WaitThere 0 s s
unfolding after_turns
none_waited s =
    record {
      state = refl;
      waits = λ some. absurd (omega (arith, some));
      counted = λ j within. none_counted j s within;
      idles = λ j below. absurd (omega (arith, below));
    }
