use Rattle.p11_rk11.proofs.Kept.{words_left_alone, stores_bounded, no_stores}
use Rattle.p11_rk11.proofs.laws.words_that_stay.Goals as goal

pub returns-clause-others : goal.returns-clause-others
returns-clause-others c = words_left_alone

pub returns-clause-count : goal.returns-clause-count
returns-clause-count c = stores_bounded

pub returns-clause-reads : goal.returns-clause-reads
returns-clause-reads c = no_stores
