-- Commands one after another.
use Rattle.std.specs.Prelude.{◌≡◌, List, [], ◌∷◌}
use Rattle.p11_lines.specs.declared.answer.Answer.{Answer}
use Rattle.p11_cpu.specs.State.{State}
use Rattle.p11_panel.specs.declared.command.Command.{Command}
use Rattle.p11_panel.specs.Commands.{CommandStep}

-- From a state, a list of commands gives a list of answers, one for each, and comes to a state.
unfoldable pub CommandsRun : {A : Type 0} → State → List (Command A) → List (Answer A) → State → Type 0
CommandsRun s [] [] s' = s' ≡ s
CommandsRun s (command ∷ commands) (answer ∷ answers) s'' =
    (s' : State) × CommandStep s command answer s' × CommandsRun s' commands answers s''
CommandsRun s _ _ s' = ⊥
