use Rattle.p11_unibus.proofs.Listing.{unlisted}
use Rattle.p11_unibus.specs.Acts.{bus_after_turn, bus_after_clock, bus_after_line, bus_after_disk}
use Rattle.p11_unibus.proofs.laws.the_acts_write_words_of_a_disk_read_alone.Goals as goal

pub returns : goal.returns
unfolding bus_after_turn bus_after_clock bus_after_line bus_after_disk
returns c = λ b turn.
    record {
      holds = λ pa. c.memory_stays.ensures b.disk b.memory turn pa;
      stays = λ pa there apart. c.words_that_stay.ensures.others b.disk b.memory turn pa there (λ k within. unlisted pa k _ apart within);
    }
