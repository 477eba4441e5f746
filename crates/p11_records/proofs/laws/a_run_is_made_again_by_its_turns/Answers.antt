use Rattle.p11_records.proofs.RunLemmas.{made_again}
use Rattle.p11_records.proofs.laws.a_run_is_made_again_by_its_turns.Goals as goal

pub returns : goal.returns
returns g c = made_again _
