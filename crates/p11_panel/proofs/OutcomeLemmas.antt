-- One outcome of a command, and of a list of commands.
use Rattle.std.proofs.Common.{◌≡◌, [], ◌∷◌, refl, sym, ap, subst, ◌∙◌, inl, inr}
use Rattle.std.proofs.lemmas.List.Elements.{All-head, All-tail}
use Rattle.p11_lines.specs.declared.answer.Answer.{Answer}
use Rattle.p11_cpu.specs.State.{State}
use Rattle.p11_panel.specs.declared.command.Command.{Command}
use Rattle.p11_panel.specs.Commands.{outcome, CommandStep}
use Rattle.p11_panel.specs.Play.{CommandsRun}
use Rattle.p11_panel.specs.Laws.Outcomes.{HadMemory, CommandsHaveOneOutcome, ListsHaveOneOutcome}

-- where memory neither refused the command nor stopped its run, it has its outcome
pub has_outcome : {A : Type 0} (s : State) (command : Command A) (answer : Answer A) (s' : State) → HadMemory answer → CommandStep s command answer s' → outcome command s ≡ (s', answer)
has_outcome s command answer s' had (inl same) = same
has_outcome s command answer s' had (inr (inl (takes, refused))) = absurd (had.0 refused.0)
has_outcome s command answer s' had (inr (inr (k, below, needs, stops))) = absurd (had.1 _ k _ (sym (ap (λ r. r.1) stops)))

pub step_once : {A : Type 0} → CommandsHaveOneOutcome A
step_once s command answer other s' t' h k m l =
    let same = sym (has_outcome s command answer s' m h) ∙ has_outcome s command other t' l k in
    (ap (λ r. r.1) same, ap (λ r. r.0) same)

pub commands_once : {A : Type 0} → ListsHaveOneOutcome A
unfolding CommandsRun
commands_once s [] [] [] s' t' h k m l = (refl, h ∙ sym k)
commands_once s [] [] (other ∷ others) s' t' h k m l = absurd k
commands_once s [] (answer ∷ given) others s' t' h k m l = absurd h
commands_once s (command ∷ rest) [] others s' t' h k m l = absurd h
commands_once s (command ∷ rest) (answer ∷ given) [] s' t' h k m l = absurd k
commands_once {A} s (command ∷ rest) (answer ∷ given) (other ∷ others) s' t' h k m l =
    let first = step_once s command answer other h.0 k.0 h.1 k.1 (All-head HadMemory answer given m) (All-head HadMemory other others l) in
    let P : State → Type 0 = λ x. CommandsRun {A = A} x rest given s' in
    let after = commands_once k.0 rest given others s' t' (subst P first.1 h.2) k.2 (All-tail HadMemory answer given m) (All-tail HadMemory other others l) in
    (ap (λ a. a ∷ given) first.0 ∙ ap (λ more. other ∷ more) after.0, after.1)
