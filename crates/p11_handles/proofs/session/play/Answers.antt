use Rattle.std.proofs.Common.{Global}
use Rattle.p11_handles.specs.Calls.{asked_for}
use Rattle.p11_handles.specs.declared.session.Given.{Given}
use Rattle.p11_handles.proofs.CallLemmas.{refused_size, accepted_size, bad_size, row_refused, refusals, sessions_given}
use Rattle.p11_handles.proofs.session.play.Goals as goal

pub returns-in_default-clause-err : goal.returns-in_default-clause-err
returns-in_default-clause-err c = bad_size (asked_for c.args.kwords c.args.lines c.args.script.now c.args.files.now) (refused_size c.args.kwords c.args.lines c.in_default.field-0 c.in_default.ensures)

pub returns-in-Err-clause-err : goal.returns-in-Err-clause-err
returns-in-Err-clause-err c =
    row_refused c.in-Err.status (asked_for c.args.kwords c.args.lines c.args.script.now c.args.files.now) (accepted_size c.args.kwords c.args.lines c.in-Ok.config c.in-Ok.ensures) c.in-Err.ensures.err

pub returns-in-Ok-read_row-clause-ok : goal.returns-in-Ok-read_row-clause-ok
returns-in-Ok-read_row-clause-ok c =
    sessions_given c.play_new.result (λ (g : Given). g.text.items) (λ (g : Given). g.files.items) Global c.args.kwords c.args.lines c.args.script.now c.args.files.now c.in-Ok.config c.in-Ok-read_row.files.items
    c.in-Ok.ensures c.in-Ok-read_row.ensures.ok c.play_new.ensures.ok

pub returns-in-Ok-read_row-clause-err : goal.returns-in-Ok-read_row-clause-err
returns-in-Ok-read_row-clause-err c =
    refusals c.play_new.result (asked_for c.args.kwords c.args.lines c.args.script.now c.args.files.now) (accepted_size c.args.kwords c.args.lines c.in-Ok.config c.in-Ok.ensures) c.play_new.ensures.err
