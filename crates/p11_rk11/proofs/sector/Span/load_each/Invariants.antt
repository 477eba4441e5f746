use Rattle.std.proofs.Common.{◌≡◌}
use Rattle.p11_rk11.specs.Address.{word_address}
use Rattle.p11_rk11.specs.Sector.{sector_from}
use Rattle.p11_rk11.proofs.sector.Span.load_each.Given as goal

abbrev pub invariant-loop-k : goal.invariant-loop-k
invariant-loop-k g l = l.words ≡ sector_from (word_address l.fn.self.start l.fn.self.stays) l.k (g.M.WordMemory.words l.memory)
