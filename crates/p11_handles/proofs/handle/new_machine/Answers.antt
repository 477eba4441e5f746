use Rattle.std.proofs.Common.{◌∙◌}
use Rattle.p11_handles.proofs.CallLemmas.{refused_size, accepted_size}
use Rattle.p11_handles.proofs.HeldLemmas.{opens_bad_size, opens_memory, opens_no_row, opens_done}
use Rattle.p11_handles.proofs.handle.new_machine.Goals as goal

pub returns-in_default-clause-err : goal.returns-in_default-clause-err
returns-in_default-clause-err c = opens_bad_size c.args.kwords c.args.lines c.args.files.now (refused_size c.args.kwords c.args.lines c.in_default.field-0 c.in_default.ensures)

pub returns-in-Err-clause-err : goal.returns-in-Err-clause-err
returns-in-Err-clause-err c = opens_no_row c.args.kwords c.args.lines c.args.files.now c.in-Err.status (accepted_size c.args.kwords c.args.lines c.in-Ok.config c.in-Ok.ensures) c.in-Err.ensures.err

pub returns-in_default-new-clause-err : goal.returns-in_default-new-clause-err
returns-in_default-new-clause-err c = opens_memory c.args.kwords c.args.lines c.args.files.now (accepted_size c.args.kwords c.args.lines c.in-Ok.config c.in-Ok.ensures)

pub returns-in-Ok-new-2-clause-ok : goal.returns-in-Ok-new-2-clause-ok
returns-in-Ok-new-2-clause-ok c =
    opens_done c.args.kwords c.args.lines c.args.files.now c.in-Ok.config c.in-Ok-read_row.files.items c.in-Ok-new-2.machine.value c.in-Ok.ensures c.in-Ok-read_row.ensures.ok (c.in-Ok-new-2.ensures.ok ∙ c.in-Ok-new.ensures)

pub returns-clause-err : goal.returns-clause-err
returns-clause-err c = opens_memory c.args.kwords c.args.lines c.args.files.now (accepted_size c.args.kwords c.args.lines c.in-Ok.config c.in-Ok.ensures)
