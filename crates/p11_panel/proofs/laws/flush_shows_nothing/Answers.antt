use Rattle.p11_panel.proofs.FlushLemmas.{flush_out}
use Rattle.p11_panel.proofs.laws.flush_shows_nothing.Goals as goal

pub returns : goal.returns
returns g c = flush_out
