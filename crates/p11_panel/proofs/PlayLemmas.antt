-- One more command of a list.
use Rattle.std.proofs.lemmas.List.{take_more}
use Rattle.std.proofs.Common.{◌≡◌, ℕ, ◌+◌, ◌<◌, length, take, get_or, List, [], ◌∷◌, ◌++◌, refl, subst}
use Rattle.p11_lines.specs.declared.answer.Answer.{Answer}
use Rattle.p11_cpu.specs.State.{State}
use Rattle.p11_panel.specs.declared.command.Command.{Command}
use Rattle.p11_panel.specs.Commands.{CommandStep}
use Rattle.p11_panel.specs.Play.{CommandsRun}

pub run_nothing : (A : Type 0) (s : State) → CommandsRun {A = A} s [] [] s
unfolding CommandsRun
run_nothing A s = refl

-- a command after a list
run_next : {A : Type 0} (commands : List (Command A)) (answers : List (Answer A)) (command : Command A) (answer : Answer A) (s s' s'' : State) → CommandsRun s commands answers s' → CommandStep s' command answer s'' → CommandsRun s (commands ++ command ∷ []) (answers ++ answer ∷ []) s''
unfolding CommandsRun
run_next [] [] command answer s s' s'' played act = let P : State → Type 0 = λ x. CommandStep x command answer s'' in (s'', subst P played act, refl)
run_next [] (a ∷ answers) command answer s s' s'' played act = absurd played
run_next (c ∷ commands) [] command answer s s' s'' played act = absurd played
run_next (c ∷ commands) (a ∷ answers) command answer s s' s'' played act =
    (played.0, played.1, run_next commands answers command answer played.0 s' s'' played.2 act)

-- the same for a loop over a slice
pub run_more : {A : Type 0} (commands : List (Command A)) (i : ℕ) (command : Command A) (answers more : List (Answer A)) (answer : Answer A) (s s' s'' : State) → i < length commands → command ≡ get_or commands i command → CommandsRun s (take i commands) answers s' → CommandStep s' command answer s'' → more ≡ answers ++ answer ∷ [] → CommandsRun s (take (i + 1) commands) more s''
run_more {A} commands i command answers more answer s s' s'' h item played act e =
    let P : Command A → Type 0 = λ x. CommandsRun s (take i commands ++ x ∷ []) (answers ++ answer ∷ []) s'' in
    rw (take_more commands i command h, e) (subst P item (run_next (take i commands) answers command answer s s' s'' played act))
