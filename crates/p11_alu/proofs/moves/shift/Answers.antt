use Rattle.std.proofs.Common.{arith}
use Rattle.std.proofs.lemmas.Grind.{common_steps}
use Rattle.p11_alu.specs.Shifts.{shift_of}
use Rattle.p11_alu.proofs.JoinedBits.{sign_of-val}
use Rattle.p11_alu.proofs.moves.shift.Goals as goal

pub returns-in-Right-clause-value : goal.returns-in-Right-clause-value
unfolding shift_of
returns-in-Right-clause-value c =
    let sign = sign_of-val c.args.size c.args.number (omega arith) in
    grind (arith, common_steps, sign)
