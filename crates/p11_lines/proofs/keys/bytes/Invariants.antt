use Rattle.std.proofs.Common.{◌≡◌, length}
use Rattle.p11_lines.specs.Grammar.{bytes_from}
use Rattle.p11_lines.proofs.Lists.{found_before}
use Rattle.p11_lines.proofs.keys.bytes.Given as goal

abbrev pub invariant-loop-rest : goal.invariant-loop-rest
invariant-loop-rest g l = found_before l.bytes.items (bytes_from l.rest) ≡ bytes_from l.fn.text

abbrev pub decreases-loop-rest : goal.decreases-loop-rest
decreases-loop-rest g l = length l.rest
