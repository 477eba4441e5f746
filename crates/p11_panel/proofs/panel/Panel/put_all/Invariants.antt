use Rattle.std.proofs.Common.{◌≡◌, true, length}
use Rattle.p11_panel.specs.Tapes.{all_fit, loaded}
use Rattle.p11_panel.proofs.panel.Panel.put_all.Given as goal

abbrev pub invariant-loop-rest : goal.invariant-loop-rest
invariant-loop-rest g l =
    record {
      done : loaded l.rest l.self ≡ loaded l.placed l.initial.self;
      fits : all_fit l.rest l.self ≡ true;
    }

abbrev pub decreases-loop-rest : goal.decreases-loop-rest
decreases-loop-rest g l = length l.rest
