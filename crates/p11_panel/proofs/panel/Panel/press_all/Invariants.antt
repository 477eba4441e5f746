use Rattle.std.proofs.Common.{◌≡◌, take}
use Rattle.p11_panel.specs.Keys.{pressed}
use Rattle.p11_panel.proofs.panel.Panel.press_all.Given as goal

abbrev pub invariant-loop-key : goal.invariant-loop-key
invariant-loop-key g l = l.self ≡ pressed (take l.key-index l.keys) l.initial.self
