-- A FLUSH taken out of a list of commands, and the number of decoded lines.
use Rattle.std.proofs.Common.{[], ◌∷◌, ◌++◌, refl, sym, ap, subst, ◌∙◌, suc}
use Rattle.std.proofs.lemmas.List.Elements.{All-head, All-tail}
use Rattle.p11_cpu.specs.State.{State}
use Rattle.p11_cpu.specs.Operator.{new_machine}
use Rattle.p11_panel.specs.declared.command.Command.TheVariants.{Flush}
use Rattle.p11_panel.specs.Play.{CommandsRun}
use Rattle.p11_panel.specs.Laws.Outcomes.{HadMemory}
use Rattle.p11_panel.specs.Laws.Flush.{FlushShowsNothing, LinesShowNothing}
use Rattle.p11_panel.proofs.OutcomeLemmas.{has_outcome, step_once, commands_once}

pub flush_out : {A : Type 0} → FlushShowsNothing A
unfolding CommandsRun
flush_out s [] behind [] others s' t' h k m l = absurd h
flush_out {A} s [] behind (answer ∷ more) others s' t' h k m l =
    let P : State → Type 0 = λ x. CommandsRun {A = A} x behind more s' in
    let done = has_outcome s Flush answer h.0 (All-head HadMemory answer more m) h.1 in
    let same = commands_once s behind more others s' t' (subst P (sym (ap (λ r. r.0) done)) h.2) k (All-tail HadMemory answer more m) l in
    (([], more, refl, ap (λ r. r.1 ∷ more) (sym done), sym same.0), same.1)
flush_out s (command ∷ before) behind [] others s' t' h k m l = absurd h
flush_out s (command ∷ before) behind (answer ∷ given) [] s' t' h k m l = absurd k
flush_out {A} s (command ∷ before) behind (answer ∷ given) (other ∷ others) s' t' h k m l =
    let first = step_once s command answer other h.0 k.0 h.1 k.1 (All-head HadMemory answer given m) (All-head HadMemory other others l) in
    let P : State → Type 0 = λ x. CommandsRun {A = A} x (before ++ _ ∷ behind) given s' in
    let after = flush_out k.0 before behind given others s' t' (subst P first.1 h.2) k.2 (All-tail HadMemory answer given m) (All-tail HadMemory other others l) in
    let rest = after.0 in
    ((answer ∷ rest.0, rest.1, ap suc rest.2, ap (λ more. answer ∷ more) rest.3, ap (λ a. a ∷ others) (sym first.0) ∙ ap (λ more. answer ∷ more) rest.4), after.1)

pub lines_show_nothing : {A : Type 0} → LinesShowNothing A
lines_show_nothing {A} one other commands given others s' t' same h k m l =
    let P : State → Type 0 = λ x. CommandsRun {A = A} x commands given s' in
    commands_once (new_machine other.kwords) commands given others s' t' (subst P (ap new_machine same) h) k m l
