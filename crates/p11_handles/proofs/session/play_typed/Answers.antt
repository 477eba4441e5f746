use Rattle.std.proofs.Common.{Global}
use Rattle.p11_handles.specs.Calls.{asked_for}
use Rattle.p11_handles.specs.declared.session.Given.{Given}
use Rattle.p11_handles.proofs.CallLemmas.{typed_given, memory_refused}
use Rattle.p11_handles.proofs.session.play_typed.Goals as goal

pub returns-in-Ok-clause-ok : goal.returns-in-Ok-clause-ok
returns-in-Ok-clause-ok c =
    typed_given c.shown.result (λ (g : Given). g.text.items) (λ (g : Given). g.files.items) Global (asked_for c.args.kwords c.args.lines c.args.script.now c.args.files.now) c.in-Ok.given.text.items c.in-Ok.given.files.items c.in-Ok.ensures.ok c.shown.ensures.ok

pub returns-in-Ok-clause-err : goal.returns-in-Ok-clause-err
returns-in-Ok-clause-err c = memory_refused c.shown.result (asked_for c.args.kwords c.args.lines c.args.script.now c.args.files.now) c.in-Ok.ensures.ok.sized c.shown.ensures.err
