-- What has been read at each exit.
use Rattle.std.proofs.Common.{[], sym, ◌∙◌, ◌≡◌, ◌<◌, length, arith, inr}
use Rattle.std.proofs.lemmas.Bool.{eqb-true, eqb-false}
use Rattle.std.proofs.lemmas.Result.{err_from_is_err_and}
use Rattle.p11_tape.proofs.ReadLemmas.{read_nothing, read_zeros, read_block, read_end, read_last, read_wrong}
use Rattle.p11_tape.proofs.tape.fill.Goals as goal

pub returns-in_err-block-clause-err : goal.returns-in_err-block-clause-err
returns-in_err-block-clause-err g c =
    let more : 0 < length c.loop-rest.rest.now = omega (arith, eqb-false (length c.loop-rest.rest.now) 0 (sym c.is_empty.ensures ∙ c.loop-rest-test.true)) in
    let p = err_from_is_err_and c.from_residual.result c.from_residual.ensures.1 in
    rw (p.1, p.2) (inr (read_wrong c.args.tape.now c.loop-rest.rest.now _ _ c.loop-rest.invariant.0 c.loop-rest.invariant.1 more c.in_err-block.ensures.err))

pub loop-rest-init : goal.loop-rest-init
loop-rest-init g c =
    let tape = c.args.tape.now in
    let zeros = c.after_zeros-rest.ensures.zeros in
    rw (c.requires) (read_zeros tape tape c.after_zeros-rest.result.now [] (read_nothing tape) zeros, zeros.all)

pub loop-rest-preserved : goal.loop-rest-preserved
loop-rest-preserved g c =
    let some : 0 < length c.in_ok-block.block.bytes.now = omega (arith, eqb-false (length c.in_ok-block.block.bytes.now) 0 (sym c.is_empty-in-loop-rest.ensures ∙ c.if-is_empty.false)) in
    let zeros = c.after_zeros-rest-in-loop-rest.ensures.zeros in
    let block = read_block c.args.tape.now c.loop-rest.rest.now c.loop-rest.placed.items c.in_ok-block.block.address c.in_ok-block.block.bytes.now c.in_ok-block.block.after.now c.loop-rest.invariant.0 c.loop-rest.invariant.1 c.in_ok-block.ensures.ok some in
    (rw (c.in_ok-place.ensures) (read_zeros c.args.tape.now c.in_ok-block.block.after.now c.after_zeros-rest-in-loop-rest.result.now _ block zeros), zeros.all)

pub returns-then-is_empty-clause-ok : goal.returns-then-is_empty-clause-ok
returns-then-is_empty-clause-ok g c =
    let none : length c.in_ok-block.block.bytes.now ≡ 0 = eqb-true (length c.in_ok-block.block.bytes.now) 0 (sym c.is_empty-in-loop-rest.ensures ∙ c.if-is_empty.true) in
    rw (c.start_at.ensures) (read_last c.args.tape.now c.loop-rest.rest.now c.loop-rest.placed.items c.in_ok-block.block.address c.in_ok-block.block.bytes.now c.in_ok-block.block.after.now c.loop-rest.invariant.0 c.loop-rest.invariant.1 c.in_ok-block.ensures.ok none)

pub returns-clause-ok : goal.returns-clause-ok
returns-clause-ok g c =
    let none : length c.loop-rest.rest.now ≡ 0 = eqb-true (length c.loop-rest.rest.now) 0 (sym c.is_empty.ensures ∙ c.loop-rest-test.false) in
    read_end c.args.tape.now c.loop-rest.rest.now c.loop-rest.placed.items c.loop-rest.invariant.0 none
