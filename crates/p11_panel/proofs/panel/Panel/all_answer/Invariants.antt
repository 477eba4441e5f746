use Rattle.std.proofs.Common.{◌≡◌, true}
use Rattle.p11_panel.specs.Ranges.{all_answer}
use Rattle.p11_panel.proofs.panel.Panel.all_answer.Given as goal

abbrev pub invariant-loop-number : goal.invariant-loop-number
invariant-loop-number g l = all_answer l.address l.number l.self ≡ true
