use Rattle.p11_handles.proofs.TypedLemmas.{first_line, no_line}
use Rattle.p11_handles.proofs.typed.next_line.Goals as goal

pub returns-in_default-clause-line : goal.returns-in_default-clause-line
returns-in_default-clause-line c = no_line c.args.text.now c.in_default.ensures

pub returns-clause-line : goal.returns-clause-line
returns-clause-line c = first_line c.args.text.now c.in-Some.end c.in-Some.ensures
