use Rattle.p11_lines.proofs.Parts.{next_none, next_last, next_some, rest_from}
use Rattle.p11_lines.proofs.parse.next_word.Goals as goal

pub returns-in_err-rest-clause-words : goal.returns-in_err-rest-clause-words
returns-in_err-rest-clause-words c = rw c.from_residual.ensures (next_none c.args.text.now c.in_err-rest.ensures)

pub returns-in_default-clause-words : goal.returns-in_default-clause-words
returns-in_default-clause-words c = next_last _ _ _ c.in_ok-rest.ensures (rest_from c.in_ok-rest.field-0 c.args.text.now) c.in_default.ensures

pub returns-clause-words : goal.returns-clause-words
returns-clause-words c =
    (next_some _ _ _ _ _ _ c.in_ok-rest.ensures (rest_from c.in_ok-rest.field-0 c.args.text.now) c.in-Some.ensures c.split_at.ensures.front c.split_at.ensures.back).0

pub returns-clause-shorter : goal.returns-clause-shorter
returns-clause-shorter c =
    (next_some _ _ _ _ _ _ c.in_ok-rest.ensures (rest_from c.in_ok-rest.field-0 c.args.text.now) c.in-Some.ensures c.split_at.ensures.front c.split_at.ensures.back).1
