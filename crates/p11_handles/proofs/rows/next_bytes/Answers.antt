use Rattle.p11_handles.proofs.RowLemmas.{too_short, few_left, some_left}
use Rattle.p11_handles.proofs.rows.next_bytes.Goals as goal

pub returns-then-row-lt4-clause-bytes : goal.returns-then-row-lt4-clause-bytes
returns-then-row-lt4-clause-bytes c = too_short c.args.row.now c.if-row-lt4.true

pub returns-then-rest-count-clause-bytes : goal.returns-then-rest-count-clause-bytes
returns-then-rest-count-clause-bytes c = few_left c.args.row.now c.number-count.result c.number-count.ensures.value c.number-count.ensures.range c.if-rest-count.true

pub returns-clause-bytes : goal.returns-clause-bytes
returns-clause-bytes c = some_left c.args.row.now c.number-count.result c.number-count.ensures.value c.number-count.ensures.range c.if-rest-count.false
