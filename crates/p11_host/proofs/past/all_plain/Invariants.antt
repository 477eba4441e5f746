use Rattle.std.proofs.Common.{◌≡◌, length}
use Rattle.p11_host.specs.Hosts.{all_plain}
use Rattle.p11_host.proofs.past.all_plain.Given as goal

abbrev pub invariant-loop-rest : goal.invariant-loop-rest
invariant-loop-rest l = all_plain l.rest ≡ all_plain l.bytes

abbrev pub decreases-loop-rest : goal.decreases-loop-rest
decreases-loop-rest l = length l.rest
