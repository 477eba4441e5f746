use Rattle.std.proofs.Common.{◌++◌, drop}
use Rattle.std.specs.List.{flat_map}
use Rattle.p11_lines.specs.Calls.Writing.{Wrote}
use Rattle.p11_lines.proofs.output.put_all.Given as goal

abbrev pub invariant-loop-piece : goal.invariant-loop-piece
invariant-loop-piece g l = Wrote (g.W.Sink.state l.fn.writer) (g.W.Sink.state l.writer) (l.fn.table.items ++ flat_map (λ piece. piece.now) l.pieces) (l.table.items ++ flat_map (λ piece. piece.now) (drop l.piece-index l.pieces))
