use Rattle.p11_panel.proofs.ConfinedRuns.{run_confined}
use Rattle.p11_panel.proofs.confined.a_user_run_is_confined.Goals as goal

pub returns : goal.returns
returns c = run_confined (record {
  turn = c.a_user_turn_is_confined.ensures.turn;
  still = c.a_user_turn_is_confined.ensures.still;
  acts = c.the_acts_write_words_of_a_disk_read_alone.ensures;
})
