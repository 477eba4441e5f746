use Rattle.p11_records.proofs.DialogueLemmas.{dialogues_again}
use Rattle.p11_records.proofs.laws.a_dialogue_is_its_record.Goals as goal

pub returns : goal.returns
returns g c = dialogues_again
