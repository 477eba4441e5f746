use Rattle.std.proofs.Common.{◌≡◌, ◌≤◌, None, length, take}
use Rattle.p11_store.specs.Calls.Files.{bytes_under}
use Rattle.p11_store.proofs.memory_store.find.Given as goal

abbrev pub invariant-loop-left : goal.invariant-loop-left
invariant-loop-left g l = record {
  within : l.left ≤ length l.files;
  rest : bytes_under None (take l.left l.files) l.name ≡ bytes_under None l.files l.name;
}

abbrev pub decreases-loop-left : goal.decreases-loop-left
decreases-loop-left g l = l.left
