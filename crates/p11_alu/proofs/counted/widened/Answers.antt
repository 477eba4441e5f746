use Rattle.std.proofs.Common.{◌≡◌, ◌*◌, ◌%◌, ◌<◌, ◌^◌, ap, pos, ◌∙◌, w64, to_z, arith}
use Rattle.std.proofs.lemmas.Int.{to_z-of_z, to_z_pos}
use Rattle.std.proofs.lemmas.Nat.{one_shl, pow_below}
use Rattle.p11_alu.proofs.Powers.{power_fits}
use Rattle.p11_alu.proofs.counted.widened.Goals as goal

pub overflow_mul-result : goal.overflow_mul-result
overflow_mul-result c =
    let few : 2 ^ c.args.places < 2 ^ 32 = pow_below c.args.places 32 c.requires.few in
    let power : to_z w64 (1 * 2 ^ c.args.places % 18446744073709551616) ≡ pos (2 ^ c.args.places) =
    ap (to_z w64) (one_shl c.args.places 64 (omega arith)) ∙ to_z_pos w64 _ (omega arith) in
    rw (to_z-of_z w64 c.args.number c.ranges.number, power)
    (power_fits c.args.number c.args.places c.requires.low c.requires.high c.requires.few)

pub returns : goal.returns
returns c =
    let few : 2 ^ c.args.places < 2 ^ 32 = pow_below c.args.places 32 c.requires.few in
    let power : to_z w64 (1 * 2 ^ c.args.places % 18446744073709551616) ≡ pos (2 ^ c.args.places) =
    ap (to_z w64) (one_shl c.args.places 64 (omega arith)) ∙ to_z_pos w64 _ (omega arith) in
    rw (to_z-of_z w64 c.args.number c.ranges.number, power)
    (to_z-of_z w64 _ (power_fits c.args.number c.args.places c.requires.low c.requires.high c.requires.few))
