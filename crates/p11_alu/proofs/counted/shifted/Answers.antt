use Rattle.std.proofs.Common.{◌∙◌, ◌*ℤ◌, ◌^◌, ap, sym, pos, w64, rules, FitsSigned}
use Rattle.std.specs.Int.{int_shr}
use Rattle.std.proofs.lemmas.Int.{to_z-of_z}
use Rattle.p11_alu.specs.Calls.ShiftsAtOnce.{is_odd}
use Rattle.p11_alu.proofs.Shifting.{out_to_left}
use Rattle.p11_alu.proofs.counted.shifted.Goals as goal

pub returns-then-places-lt32-clause-out : goal.returns-then-places-lt32-clause-out
returns-then-places-lt32-clause-out c =
    let number = to_z-of_z w64 c.args.number c.ranges.number in
    let wide_fits : FitsSigned w64 c.widened-wide.result = search rules in
    let moved_fits : FitsSigned w64 (int_shr c.widened-wide.result c.args.bits) = search rules in
    let wide = c.widened-wide.ensures ∙ ap (λ z. z *ℤ pos (2 ^ c.from-places.result)) number in
    let narrowed = to_z-of_z w64 _ moved_fits in
    c.has_low_bit.ensures
    ∙ rw (to_z-of_z w64 _ wide_fits) (ap is_odd narrowed)
    ∙ ap (λ z. is_odd (int_shr z c.args.bits)) wide
    ∙ sym (out_to_left c.args.bits c.args.count c.from-places.result c.args.number c.from-places.ensures c.if-places-eq0.false c.if-places-lt32.true)
