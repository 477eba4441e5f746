use Rattle.std.proofs.Common.{◌∙◌, ◌<◌, ap, w64, rules, FitsSigned, arith}
use Rattle.std.proofs.lemmas.Int.{to_z-of_z}
use Rattle.p11_alu.specs.Numbers.{wrapped}
use Rattle.p11_alu.specs.Pairs.{number_of, pair_of}
use Rattle.p11_alu.specs.Calls.ShiftsAtOnce.{fits_pair}
use Rattle.p11_alu.proofs.Shifting.{ashc_computed}
use Rattle.p11_alu.proofs.counted.ashc.Goals as goal

pub returns : goal.returns
returns c =
    let pair_fits : FitsSigned w64 c.signed_pair.result = search rules in
    let result_fits : FitsSigned w64 c.signed_pair-2.result = search rules in
    let wide_fits : FitsSigned w64 c.shifted-wide.result.0 = search rules in
    let wide = to_z-of_z w64 _ wide_fits in
    let below : number_of c.args.pair < 4294967296 = omega arith in
    rw (to_z-of_z w64 _ result_fits, c.signed_pair-2.ensures, c.unsigned_pair.ensures)
    (ashc_computed c.args.pair _ c.args.count _ _ _ _ below
    (to_z-of_z w64 _ pair_fits ∙ c.signed_pair.ensures) c.shifted-wide.ensures.number
    c.shifted-wide.ensures.out
    (c.low_pair-result.ensures ∙ ap (λ z. pair_of (wrapped 4294967296 z)) wide)
    (c.is_pair.ensures ∙ ap fits_pair wide))
