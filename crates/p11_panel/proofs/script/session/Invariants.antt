use Rattle.std.proofs.Common.{◌≤◌, ◌*◌}
use Rattle.p11_panel.specs.Session.{with_store, LineDoes}
use Rattle.p11_panel.proofs.SessionLemmas.{Reached}
use Rattle.p11_panel.proofs.script.session.Given as goal

abbrev pub invariant-loop-turn : goal.invariant-loop-turn
invariant-loop-turn g l = record {
  few : l.answered ≤ 4096 * l._turn;
  reached : Reached (LineDoes {A = g.row.A.Denot}) l._turn (g.R.Source.state l.fn.reader) (g.R.Source.state l.reader) (with_store l.fn.panel (g.S.Store.state l.fn.store)) (g.W.Sink.state l.fn.writer) (with_store l.panel (g.S.Store.state l.store)) (g.W.Sink.state l.writer) l.answered l.buffer;
}
