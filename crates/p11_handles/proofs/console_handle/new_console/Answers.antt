use Rattle.std.proofs.Common.{Global, ◌∙◌, ap}
use Rattle.p11_cpu.specs.Operator.{new_machine}
use Rattle.p11_cpu.specs.State.{State}
use Rattle.p11_console.specs.State.{opened}
use Rattle.p11_dialogue.specs.declared.settings.Settings.{Settings}
use Rattle.p11_handles.specs.ConsoleCalls.{wished}
use Rattle.p11_handles.proofs.ConsoleLemmas.{size_refused, manner_refused, no_memory, opens_done}
use Rattle.p11_handles.proofs.console_handle.new_console.Goals as goal

pub returns-in_default-clause-err : goal.returns-in_default-clause-err
returns-in_default-clause-err c =
    size_refused (wished c.args.kwords c.args.lines c.args.manner c.args.strict c.args.saveless c.args.talk) c.in_default.field-0 c.in_default.ensures

pub returns-then-manner-gt2-clause-err : goal.returns-then-manner-gt2-clause-err
returns-then-manner-gt2-clause-err c =
    manner_refused (wished c.args.kwords c.args.lines c.args.manner c.args.strict c.args.saveless c.args.talk) c.if-manner-gt2.true

pub returns-in_default-new-clause-err : goal.returns-in_default-new-clause-err
returns-in_default-new-clause-err c =
    no_memory (wished c.args.kwords c.args.lines c.args.manner c.args.strict c.args.saveless c.args.talk) c.in-Ok.config c.in-Ok.ensures c.if-manner-gt2.false

pub returns-in-Ok-new-2-clause-ok : goal.returns-in-Ok-new-2-clause-ok
returns-in-Ok-new-2-clause-ok c =
    opens_done (wished c.args.kwords c.args.lines c.args.manner c.args.strict c.args.saveless c.args.talk) c.in-Ok.config c.in-Ok-new-2.console.value c.in-Ok.ensures c.if-manner-gt2.false
    (c.in-Ok-new-2.ensures.ok ∙ (c.new-console.ensures ∙
    (ap (λ (m : State). opened {A = Global} m c.settings_of.result) c.in-Ok-new.ensures ∙
    ap (λ (s : Settings). opened {A = Global} (new_machine c.in-Ok.config.kwords) s) c.settings_of.ensures)))

pub returns-clause-err : goal.returns-clause-err
returns-clause-err c =
    no_memory (wished c.args.kwords c.args.lines c.args.manner c.args.strict c.args.saveless c.args.talk) c.in-Ok.config c.in-Ok.ensures c.if-manner-gt2.false
