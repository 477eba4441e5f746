use Rattle.std.proofs.Common.{◌≡◌, ◌≢◌, ℕ, true, false, cond, refl, ap, arith}
use Rattle.std.proofs.lemmas.Grind.{common_steps}
use Rattle.p11_memory.specs.Memory.{Words, has_word, word_at, stored}
use Rattle.p11_unibus.proofs.Registers.{memory_shows_in_no_register, word_there}
use Rattle.p11_unibus.specs.Bus.{see, change}
use Rattle.p11_unibus.specs.Registers.{register_at}
use Rattle.std.specs.Prelude.{Some}
use Rattle.p11_unibus.proofs.laws.a_word_written_to_memory_shows.Goals as goal

-- a store leaves which addresses hold words, and the word at every other address that holds one
has_stored : (m : Words) (a w other : ℕ) → has_word (stored m a w) other ≡ has_word m other
unfolding has_word stored
has_stored m a w other = grind (arith, common_steps)

word_stored : (m : Words) (a w other : ℕ) → has_word m a ≡ true → has_word m other ≡ true → other ≢ a →
    word_at (stored m a w) other ≡ word_at m other
unfolding has_word word_at stored
word_stored m a w other here there apart = grind (arith, common_steps)

pub returns-clause-elsewhere : goal.returns-clause-elsewhere
unfolding see change
returns-clause-elsewhere c = λ b here other apart.
    rw here (rw (has_stored b.memory c.args.address c.args.word other)
    (elim (has_word b.memory other) as (λ t. has_word b.memory other ≡ t →
    cond t (Some (word_at (stored b.memory c.args.address c.args.word) other))
    (word_there c.args.turn (register_at other) (record b { memory = stored b.memory c.args.address c.args.word }))
    ≡ cond t (Some (word_at b.memory other)) (word_there c.args.turn (register_at other) b)) [
      | true ↦ λ there. ap (λ n. Some n) (word_stored b.memory c.args.address c.args.word other here there apart)
      | false ↦ λ _. memory_shows_in_no_register c.args.turn (register_at other) b (stored b.memory c.args.address c.args.word)
    ] refl))
