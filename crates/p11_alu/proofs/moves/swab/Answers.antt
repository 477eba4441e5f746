use Rattle.std.proofs.Common.{refl, arith}
use Rattle.p11_alu.specs.Shifts.{swab_of}
use Rattle.p11_alu.proofs.JoinedBits.{swapped_bytes}
use Rattle.p11_alu.proofs.moves.swab.Goals as goal

pub returns : goal.returns
unfolding swab_of
returns c =
    let e = swapped_bytes c.args.word (omega arith) in
    rw (c.logic.ensures, e) refl
