use Rattle.std.proofs.Common.{◌≡◌, ◌+◌, ◌≤◌}
use Rattle.p11_rk11.specs.Address.{word_address}
use Rattle.p11_memory.specs.Memory.{all_stored}
use Rattle.p11_rk11.proofs.sector.Span.store_each.Given as goal

abbrev pub invariant-loop-k : goal.invariant-loop-k
invariant-loop-k g l =
    record {
      words : g.M.WordMemory.words l.memory ≡ all_stored (word_address l.fn.self.start l.fn.self.stays) l.words l.k (g.M.WordMemory.words l.initial.memory);
      room : g.M.WordMemory.room l.initial.memory ≤ g.M.WordMemory.room l.memory + l.k;
    }
