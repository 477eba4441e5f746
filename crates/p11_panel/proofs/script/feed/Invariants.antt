use Rattle.std.proofs.Common.{◌≤◌, ◌+◌, ℕ, List, ◌++◌, take}
use Rattle.p11_lines.specs.Writers.{WriterState}
use Rattle.p11_panel.specs.Session.{SessionState, with_store, LineDoes}
use Rattle.p11_panel.specs.Kept.Standing.{Stands}
use Rattle.p11_panel.proofs.script.feed.Given as goal

abbrev pub invariant-loop-byte : goal.invariant-loop-byte
invariant-loop-byte g l = record {
  few : l.answered ≤ l.byte-index;
  stands : (read : List ℕ) (s : SessionState) (start : WriterState) (count : ℕ)
      → Stands (LineDoes {A = g.row.A.Denot}) read s start (with_store l.fn.panel (g.S.Store.state l.fn.store)) (g.W.Sink.state l.fn.writer) count l.fn.buffer
      → Stands (LineDoes {A = g.row.A.Denot}) (read ++ take l.byte-index l.bytes) s start (with_store l.panel (g.S.Store.state l.store)) (g.W.Sink.state l.writer) (count + l.answered) l.buffer;
}
