use Rattle.std.proofs.Common.{◌≡◌, ◌+◌, ◌-◌, ◌≤◌}
use Rattle.p11_panel.specs.Calls.Runs.{stops_idling}
use Rattle.p11_panel.proofs.RunLemmas.{Goes}
use Rattle.p11_panel.proofs.run.run.Given as goal

abbrev pub invariant-loop-made : goal.invariant-loop-made
invariant-loop-made g l =
    record {
      turns : l.machine.visible.turns ≡ l.initial.machine.visible.turns + l.made;
      within : l.made ≤ l.turns;
      goes : Goes (stops_idling l.until_idle) l.turns l.initial.machine.visible l.made l.machine.visible;
    }

abbrev pub decreases-loop-made : goal.decreases-loop-made
decreases-loop-made g l = l.turns - l.made
