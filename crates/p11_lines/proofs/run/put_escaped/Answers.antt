use Rattle.p11_lines.specs.Escapes.{escaped_byte}
use Rattle.p11_lines.proofs.Pieces.{piece_put, piece_broken, flat_map_drop}
use Rattle.p11_lines.proofs.run.put_escaped.Goals as goal

pub returns-in_err-put_byte : goal.returns-in_err-put_byte
returns-in_err-put_byte g c =
    piece_broken _ c.from_residual.ensures.0 c.loop-byte.invariant (flat_map_drop escaped_byte c.args.bytes.now c.loop-byte.byte-index _ c.loop-byte-test.true) c.in_err-put_byte.ensures

pub loop-byte-preserved : goal.loop-byte-preserved
loop-byte-preserved g c =
    piece_put _ c.loop-byte.invariant (flat_map_drop escaped_byte c.args.bytes.now c.loop-byte.byte-index _ c.loop-byte-test.true) c.in_ok-put_byte.ensures
