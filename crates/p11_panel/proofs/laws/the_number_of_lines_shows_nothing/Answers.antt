use Rattle.p11_panel.proofs.FlushLemmas.{lines_show_nothing}
use Rattle.p11_panel.proofs.laws.the_number_of_lines_shows_nothing.Goals as goal

pub returns : goal.returns
returns g c = lines_show_nothing
