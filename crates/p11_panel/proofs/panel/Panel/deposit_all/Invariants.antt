use Rattle.std.proofs.Common.{◌≡◌, true, length, take}
use Rattle.p11_panel.specs.Ranges.{all_answer, deposited}
use Rattle.p11_panel.proofs.panel.Panel.deposit_all.Given as goal

abbrev pub invariant-loop-number : goal.invariant-loop-number
invariant-loop-number g l =
    record {
      done : l.self ≡ deposited l.address (take l.number l.words) l.initial.self;
      answer : all_answer l.address (length l.words) l.self ≡ true;
    }
