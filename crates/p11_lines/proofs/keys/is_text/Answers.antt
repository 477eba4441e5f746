use Rattle.std.proofs.Common.{◌≡◌, length, sym, ap, ◌∙◌, arith}
use Rattle.std.proofs.lemmas.Bool.Decides.{nat_tests}
use Rattle.std.specs.Option.{is_some}
use Rattle.p11_lines.proofs.Escapes.{bytes_from-end}
use Rattle.p11_lines.proofs.keys.is_text.Goals as goal

pub returns : goal.returns
returns c =
    let none : length c.loop-rest.rest.now ≡ 0 = grind (arith, nat_tests) in
    sym (ap is_some (bytes_from-end c.loop-rest.rest.now none)) ∙ c.loop-rest.invariant
