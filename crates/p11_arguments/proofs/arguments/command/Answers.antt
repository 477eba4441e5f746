use Rattle.std.proofs.Common.{◌∙◌, ap₂}
use Rattle.std.proofs.lemmas.Result.{IfOk-weaker}
use Rattle.clap.specs.Words.{with_rule}
use Rattle.p11_arguments.proofs.arguments.command.Goals as goal

pub returns : goal.returns
returns c =
    let one = c.in_ok-arg.ensures.shape c.option-memory.ensures.1 ∙ ap₂ with_rule c.program.ensures c.option-memory.ensures.0 in
    let two = c.in_ok-arg-2.ensures.shape c.option-lines.ensures.1 ∙ ap₂ with_rule one c.option-lines.ensures.0 in
    let three = c.in_ok-arg-3.ensures.shape c.folder-files.ensures.1 ∙ ap₂ with_rule two c.folder-files.ensures.0 in
    let four = c.in_ok-arg-4.ensures.shape c.flag-saveless.ensures.1 ∙ ap₂ with_rule three c.flag-saveless.ensures.0 in
    IfOk-weaker c.arg-5.result _ _ (λ command added. added.shape c.script.ensures.1 ∙ ap₂ with_rule four c.script.ensures.0) c.arg-5.ensures
