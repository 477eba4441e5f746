use Rattle.std.proofs.Common.{◌≡◌}
use Rattle.p11_rk11.proofs.Init.{initialized}
use Rattle.p11_rk11.proofs.controller.Rk11.init.Given as goal

abbrev pub invariant-loop-n : goal.invariant-loop-n
invariant-loop-n g l =
    record {
      registers : l.self.state.registers ≡ l.initial.self.state.registers;
      drives : l.self.state.drives ≡ initialized l.n l.initial.self.state.drives;
      prepared : l.self.prepared ≡ l.initial.self.prepared;
    }
