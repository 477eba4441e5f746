use Rattle.std.proofs.Common.{◌≡◌, ◌||◌, length}
use Rattle.p11_console.specs.Saved.{any_unsaved}
use Rattle.p11_console.proofs.packs.any_unsaved_of.Given as goal

abbrev pub invariant-loop-rest : goal.invariant-loop-rest
invariant-loop-rest g l =
    record {
      same : l.panel ≡ l.initial.panel;
      found : (l.found || any_unsaved l.initial.panel l.saved l.rest) ≡ any_unsaved l.initial.panel l.saved l.drives;
    }

abbrev pub decreases-loop-rest : goal.decreases-loop-rest
decreases-loop-rest g l = length l.rest
