-- A command that asks for a run: it stops, or is refused for the number of its turns.
use Rattle.std.proofs.Common.{◌≡◌, ℕ, Bool, true, false, Option, Some, None, MatchOption, refl, sym, ap, ◌∙◌, arith, inl, inr}
use Rattle.p11_lines.specs.declared.answer.Answer.{Answer}
use Rattle.p11_lines.specs.declared.fault.Fault.{Fault}
use Rattle.p11_cpu.specs.State.{State}
use Rattle.p11_panel.specs.Calls.Runs.{run_command}
use Rattle.p11_panel.specs.Commands.{outcome, takes_memory, turns_in, CommandStep}
use Rattle.p11_panel.specs.Refusals.{IsRefused, unless}
use Rattle.p11_panel.specs.Runs.{step_fault, whole_run}
use Rattle.p11_handles.specs.HeldRuns.{AnswersStop}

comes_to : (A : Type 0) (until_idle : Bool) (n : ℕ) (s : State) → outcome {A = A} (run_command until_idle n) s ≡ unless (step_fault n s) s (whole_run until_idle n s)
comes_to A true n s = refl
comes_to A false n s = refl

takes_none : (A : Type 0) (until_idle : Bool) (n : ℕ) (s : State) → takes_memory {A = A} (run_command until_idle n) s ≡ false
takes_none A true n s = refl
takes_none A false n s = refl

not_both : (b : Bool) → b ≡ true → b ≡ false → ⊥
not_both b e f = cc

by_fault : {A : Type 0} (until_idle : Bool) (n : ℕ) (s : State) (answer : Answer A) (s' : State) (fault : Option Fault) → step_fault n s ≡ fault → CommandStep s (run_command until_idle n) answer s' → MatchOption fault (AnswersStop until_idle n s answer s') (λ f. IsRefused f s answer s')
unfolding whole_run
by_fault {A} until_idle n s answer s' None free (inl same) =
    let whole : whole_run until_idle n s ≡ (s', answer) = ap (λ fault. unless fault s (whole_run {A = A} until_idle n s)) (sym free) ∙ sym (comes_to A until_idle n s) ∙ same in
    (inl same, (_, _, _, _, sym (ap (λ r. r.1) whole)))
by_fault {A} until_idle n s answer s' None free (inr (inl (takes, refused))) = absurd (not_both _ takes (takes_none A until_idle n s))
by_fault {A} until_idle n s answer s' None free (inr (inr (k, below, needs, stops))) = (inr (inr (k, below, needs, stops)), (_, _, _, _, sym (ap (λ r. r.1) stops)))
by_fault {A} until_idle n s answer s' (Some fault) there (inl same) =
    let refused : unless (Some fault) s (whole_run until_idle n s) ≡ (s', answer) = ap (λ f. unless f s (whole_run {A = A} until_idle n s)) (sym there) ∙ sym (comes_to A until_idle n s) ∙ same in
    (sym (ap (λ r. r.1) refused), sym (ap (λ r. r.0) refused))
by_fault {A} until_idle n s answer s' (Some fault) there (inr (inl (takes, refused))) = absurd (not_both _ takes (takes_none A until_idle n s))
by_fault {A} until_idle n s answer s' (Some fault) there (inr (inr (k, below, needs, stops))) =
    let none : turns_in (outcome {A = A} (run_command until_idle n) s).1 ≡ 0 = ap (λ r. turns_in r.1) (comes_to A until_idle n s) ∙ ap (λ f. turns_in (unless f s (whole_run {A = A} until_idle n s)).1) there in
    absurd (omega (arith, below, none))

pub run_ends : {A : Type 0} (until_idle : Bool) (n : ℕ) (s : State) (answer : Answer A) (s' : State) → CommandStep s (run_command until_idle n) answer s' → MatchOption (step_fault n s) (AnswersStop until_idle n s answer s') (λ f. IsRefused f s answer s')
run_ends until_idle n s answer s' h = by_fault until_idle n s answer s' (step_fault n s) refl h
