use Rattle.std.proofs.Common.{◌≡◌, ◌++◌, length}
use Rattle.p11_shown.specs.Screen.{passed, after}
use Rattle.p11_shown.proofs.screen.Screen.pass.Given as goal

abbrev pub invariant-loop-rest : goal.invariant-loop-rest
invariant-loop-rest g l =
    record {
      passed : l.out.items ++ passed l.now l.rest ≡ passed l.self l.bytes;
      after : after l.now l.rest ≡ after l.self l.bytes;
    }

abbrev pub decreases-loop-rest : goal.decreases-loop-rest
decreases-loop-rest g l = length l.rest
