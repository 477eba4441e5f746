use Rattle.std.proofs.Common.{◌≡◌, nat_eq, false, arith}
use Rattle.std.proofs.lemmas.Bool.Decides.{nat_tests}
use Rattle.p11_lines.proofs.Escapes.{at_plain, at_other, at_no_escape, at_escape}
use Rattle.p11_lines.proofs.Parts.{rest_from}
use Rattle.p11_lines.proofs.keys.next_byte.Goals as goal

pub returns-then-is_plain-clause-bytes : goal.returns-then-is_plain-clause-bytes
returns-then-is_plain-clause-bytes c = at_plain c.args.text.now _ _ c.first_byte-byte.ensures c.if-is_plain.ensures

pub returns-then-byte-ne92-clause-bytes : goal.returns-then-byte-ne92-clause-bytes
returns-then-byte-ne92-clause-bytes c =
    let other : nat_eq c.first_byte-byte.result.0 92 ≡ false = grind (arith, nat_tests) in
    at_other c.args.text.now _ _ c.first_byte-byte.ensures c.if-is_plain.ensures other

pub returns-in_err-escape-clause-bytes : goal.returns-in_err-escape-clause-bytes
returns-in_err-escape-clause-bytes c =
    let backslash : c.first_byte-byte.result.0 ≡ 92 = grind (arith, nat_tests) in
    rw c.from_residual.ensures (at_no_escape c.args.text.now _ _ c.first_byte-byte.ensures backslash c.in_err-escape.ensures.value)

pub returns-clause-bytes : goal.returns-clause-bytes
returns-clause-bytes c =
    let backslash : c.first_byte-byte.result.0 ≡ 92 = grind (arith, nat_tests) in
    at_escape c.args.text.now _ _ _ c.in_ok-escape.escape c.first_byte-byte.ensures backslash c.in_ok-escape.ensures.value (rest_from 3 c.first_byte-byte.result.1.now)
