use Rattle.p11_handles.proofs.TypedLemmas.{an_escape, itself}
use Rattle.p11_handles.proofs.typed.next_byte.Goals as goal

pub returns-then-byte-eq92-clause-bytes : goal.returns-then-byte-eq92-clause-bytes
returns-then-byte-eq92-clause-bytes c =
    an_escape c.args.text.now c.first_byte-byte.result.0 c.first_byte-byte.result.1.now c.first_byte-byte.ensures c.if-byte-eq92.true c.escaped_value.result c.past_three.result.now c.escaped_value.ensures c.past_three.ensures.value

pub returns-else-byte-eq92-clause-bytes : goal.returns-else-byte-eq92-clause-bytes
returns-else-byte-eq92-clause-bytes c =
    itself c.args.text.now c.first_byte-byte.result.0 c.first_byte-byte.result.1.now c.first_byte-byte.ensures c.if-byte-eq92.false
