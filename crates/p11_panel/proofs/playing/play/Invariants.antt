use Rattle.std.proofs.Common.{take}
use Rattle.p11_cpu.specs.Operator.{new_machine}
use Rattle.p11_panel.specs.Confinement.{CommandsConfined}
use Rattle.p11_panel.specs.Play.{CommandsRun}
use Rattle.p11_panel.proofs.playing.play.Given as goal

abbrev pub invariant-loop-command : goal.invariant-loop-command
invariant-loop-command g l =
    record {
      plays : CommandsRun (new_machine l.fn.config.kwords) (take l.command-index l.commands) l.answers.items l.panel;
      confined : CommandsConfined (new_machine l.fn.config.kwords) (take l.command-index l.commands) l.answers.items l.panel;
    }
