use Rattle.p11_lines.proofs.Pieces.{Wrote-none, piece_put, piece_broken, pieces_put, flat_map_drop, flat_map_past}
use Rattle.p11_lines.proofs.output.put_all.Goals as goal

pub loop-piece-init : goal.loop-piece-init
loop-piece-init g c = Wrote-none _ _

pub returns-in_err-put : goal.returns-in_err-put
returns-in_err-put g c =
    piece_broken _ c.from_residual.ensures.0 c.loop-piece.invariant (flat_map_drop (λ piece. piece.now) c.args.pieces.now c.loop-piece.piece-index _ c.loop-piece-test.true) c.in_err-put.ensures

pub loop-piece-preserved : goal.loop-piece-preserved
loop-piece-preserved g c =
    piece_put _ c.loop-piece.invariant (flat_map_drop (λ piece. piece.now) c.args.pieces.now c.loop-piece.piece-index _ c.loop-piece-test.true) c.in_ok-put.ensures

pub returns : goal.returns
returns g c = pieces_put c.loop-piece.invariant (flat_map_past _ _ _ c.loop-piece-test.false)
