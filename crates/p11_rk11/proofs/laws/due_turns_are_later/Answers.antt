use Rattle.p11_rk11.proofs.Turns.{later_after_acts}
use Rattle.p11_rk11.proofs.laws.due_turns_are_later.Goals as goal

pub returns : goal.returns
returns c = later_after_acts
