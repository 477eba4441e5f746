use Rattle.p11_unibus.proofs.FirstTurns.{next_is_first}
use Rattle.p11_unibus.proofs.laws.the_next_due_turn_is_the_first_in_which_a_device_acts.Goals as goal

pub returns-clause-next : goal.returns-clause-next
returns-clause-next c = next_is_first
