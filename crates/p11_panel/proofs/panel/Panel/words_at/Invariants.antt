use Rattle.std.proofs.Common.{◌≡◌, ◌≤◌, true}
use Rattle.std.specs.Prelude.{vec_len, vec_capacity}
use Rattle.p11_panel.specs.Ranges.{all_answer, reads_at}
use Rattle.p11_panel.proofs.panel.Panel.words_at.Given as goal

abbrev pub invariant-loop-number : goal.invariant-loop-number
invariant-loop-number g l =
    record {
      done : reads_at l.address l.number l.initial.self ≡ (l.self, l.words.items);
      answer : all_answer l.address l.count l.self ≡ true;
      size : vec_len l.words ≡ l.number;
      room : l.count ≤ vec_capacity l.words;
    }
