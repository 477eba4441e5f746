use Rattle.std.proofs.Common.{◌∙◌, ap, w64, rules, FitsSigned, arith}
use Rattle.std.proofs.lemmas.Int.{to_z-of_z}
use Rattle.p11_alu.specs.Numbers.{wrapped}
use Rattle.p11_alu.specs.Products.{fits_word}
use Rattle.p11_alu.proofs.Shifting.{ash_computed}
use Rattle.p11_alu.proofs.counted.ash.Goals as goal

pub returns : goal.returns
returns c =
    let word_fits : FitsSigned w64 c.signed_word.result = search rules in
    let wide_fits : FitsSigned w64 c.shifted-wide.result.0 = search rules in
    let wide = to_z-of_z w64 _ wide_fits in
    ash_computed c.args.word c.args.count _ _ _ _ _ _ (omega arith)
    (to_z-of_z w64 _ word_fits ∙ c.signed_word.ensures) c.shifted-wide.ensures.number
    c.shifted-wide.ensures.out (c.low_word-result.ensures ∙ ap (wrapped 65536) wide)
    c.is_negative.ensures (c.is_word.ensures ∙ ap fits_word wide)
