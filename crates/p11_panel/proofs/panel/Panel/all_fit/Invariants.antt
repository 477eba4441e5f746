use Rattle.std.proofs.Common.{◌≡◌, true, take}
use Rattle.p11_panel.specs.Tapes.{all_fit}
use Rattle.p11_panel.proofs.panel.Panel.all_fit.Given as goal

abbrev pub invariant-loop-byte : goal.invariant-loop-byte
invariant-loop-byte g l = all_fit (take l.byte-index l.placed) l.self ≡ true
