use Rattle.p11_handles.proofs.TypedLemmas.{all_moved, nothing_written}
use Rattle.p11_handles.specs.Typed.{written_in}
use Rattle.std.proofs.Common.{◌++◌, arith}
use Rattle.p11_handles.proofs.typed.put_written.Goals as goal

pub returns : goal.returns
returns c =
    all_moved c.loop-rest.typed.items (written_in c.loop-rest.rest.now) (c.args.typed.now.items ++ written_in c.args.text.now) c.loop-rest.invariant
    (nothing_written c.loop-rest.rest.now (grind arith))
