use Rattle.p11_panel.proofs.OutcomeLemmas.{step_once}
use Rattle.p11_panel.proofs.laws.a_command_has_one_outcome.Goals as goal

pub returns : goal.returns
returns g c = step_once
