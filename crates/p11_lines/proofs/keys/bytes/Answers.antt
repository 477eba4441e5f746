use Rattle.std.proofs.Common.{◌≡◌, length, sym, ap, ◌∙◌, arith}
use Rattle.std.proofs.lemmas.Bool.Decides.{nat_tests}
use Rattle.p11_lines.proofs.Escapes.{bytes_from-end}
use Rattle.p11_lines.proofs.Lists.{found_before, found_before_all}
use Rattle.p11_lines.proofs.keys.bytes.Goals as goal

pub returns : goal.returns
returns g c =
    let none : length c.loop-rest.rest.now ≡ 0 = grind (arith, nat_tests) in
    sym c.loop-rest.invariant ∙ ap (found_before c.loop-rest.bytes.items) (bytes_from-end c.loop-rest.rest.now none) ∙ found_before_all c.loop-rest.bytes.items
