-- What is kept to find answers sooner shows nowhere: FLUSH changes nothing that follows it, and machines that differ in
-- the number of decoded lines alone answer alike.
use Rattle.std.specs.Prelude.{◌≡◌, ◌∷◌, ◌++◌, List, length, All}
use Rattle.p11_lines.specs.declared.answer.Answer.{Answer}
use Rattle.p11_lines.specs.declared.answer.Answer.TheVariants.{Done}
use Rattle.p11_cpu.specs.State.{State}
use Rattle.p11_cpu.specs.Operator.{new_machine}
use Rattle.p11_panel.specs.declared.command.Command.{Command}
use Rattle.p11_panel.specs.declared.command.Command.TheVariants.{Flush}
use Rattle.p11_panel.specs.Laws.Outcomes.{HadMemory}
use Rattle.p11_panel.specs.Play.{CommandsRun}
use Rattle.p11_panel.specs.Calls.Sizes.{Sizes}

-- A FLUSH anywhere in a list of commands is done, and without it every other answer and the last state are the same,
-- where memory refused and stopped nothing.
abbrev pub FlushShowsNothing : Type 0 → Type 0
FlushShowsNothing A =
    (s : State) (before behind : List (Command A)) (given others : List (Answer A)) (s' t' : State)
    → CommandsRun s (before ++ Flush ∷ behind) given s' → CommandsRun s (before ++ behind) others t'
    → All HadMemory given → All HadMemory others
    → ((first : List (Answer A)) × (more : List (Answer A)) × (length first ≡ length before)
    × (given ≡ first ++ Done ∷ more) × (others ≡ first ++ more)) × (s' ≡ t')

-- New machines with as much memory give one list of answers to a list of commands and come to one last state, whatever
-- the number of their decoded lines, where memory refused and stopped nothing.
abbrev pub LinesShowNothing : Type 0 → Type 0
LinesShowNothing A =
    (one other : Sizes) (commands : List (Command A)) (given others : List (Answer A)) (s' t' : State)
    → one.kwords ≡ other.kwords
    → CommandsRun (new_machine one.kwords) commands given s' → CommandsRun (new_machine other.kwords) commands others t'
    → All HadMemory given → All HadMemory others
    → (given ≡ others) × (s' ≡ t')
