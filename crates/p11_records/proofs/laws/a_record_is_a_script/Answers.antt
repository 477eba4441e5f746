use Rattle.p11_records.proofs.ScriptLemmas.{asked}
use Rattle.p11_records.proofs.laws.a_record_is_a_script.Goals as goal

pub returns : goal.returns
returns g c = asked
