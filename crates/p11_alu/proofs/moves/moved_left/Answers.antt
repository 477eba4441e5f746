use Rattle.std.proofs.Common.{◌∙◌}
use Rattle.p11_alu.proofs.JoinedBits.{val-joined_low}
use Rattle.p11_alu.proofs.moves.moved_left.Goals as goal

pub returns-clause-value : goal.returns-clause-value
returns-clause-value c =
    c.cut.ensures.value ∙ val-joined_low c.args.size c.args.number _ c.args.bit c.carry.ensures
