use Rattle.std.proofs.Common.{◌≡◌, true}
use Rattle.p11_rk11.specs.Address.{word_address}
use Rattle.p11_memory.specs.Memory.{all_held}
use Rattle.p11_rk11.proofs.sector.Span.is_each_held.Given as goal

abbrev pub invariant-loop-k : goal.invariant-loop-k
invariant-loop-k g l = all_held (word_address l.fn.self.start l.fn.self.stays) l.k (g.M.WordMemory.words l.memory) ≡ true
