use Rattle.p11_panel.proofs.OutcomeLemmas.{commands_once}
use Rattle.p11_panel.proofs.laws.a_list_has_one_outcome.Goals as goal

pub returns : goal.returns
returns g c = commands_once
