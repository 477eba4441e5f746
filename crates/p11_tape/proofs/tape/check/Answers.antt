-- What has been read at each exit.
use Rattle.std.proofs.Common.{[], ◌++◌, refl, sym, ◌∙◌, ◌≡◌, ◌<◌, ◌+◌, length, arith}
use Rattle.std.specs.List.{enumerate_from}
use Rattle.std.proofs.lemmas.List.{length-append}
use Rattle.std.proofs.lemmas.List.FromFn.{length-enumerate_from}
use Rattle.std.proofs.lemmas.Bool.{eqb-true, eqb-false}
use Rattle.std.proofs.lemmas.Result.{err_from_is_err_and}
use Rattle.p11_tape.proofs.ReadLemmas.{read_nothing, read_zeros, read_block, read_end, read_last, read_wrong}
use Rattle.p11_tape.proofs.tape.check.Goals as goal

pub returns-in_err-block-clause-err : goal.returns-in_err-block-clause-err
returns-in_err-block-clause-err c =
    let read = c.loop-rest.invariant.0 in
    let more : 0 < length c.loop-rest.rest.now = omega (arith, eqb-false (length c.loop-rest.rest.now) 0 (sym c.is_empty.ensures ∙ c.loop-rest-test.true)) in
    let p = err_from_is_err_and c.from_residual.result c.from_residual.ensures.1 in
    rw (p.1, p.2) (read_wrong c.args.tape.now c.loop-rest.rest.now read.0 _ read.1 c.loop-rest.invariant.1 more c.in_err-block.ensures.err)

pub loop-rest-init : goal.loop-rest-init
loop-rest-init c =
    let tape = c.args.tape.now in
    let zeros = c.after_zeros-rest.ensures.zeros in
    (([], read_zeros tape tape c.after_zeros-rest.result.now [] (read_nothing tape) zeros, refl), zeros.all, omega (arith, c.after_zeros-rest.ensures.shorter))

pub loop-rest-preserved : goal.loop-rest-preserved
loop-rest-preserved c =
    let read = c.loop-rest.invariant.0 in
    let some : 0 < length c.in_ok-block.block.bytes.now = omega (arith, eqb-false (length c.in_ok-block.block.bytes.now) 0 (sym c.is_empty-in-loop-rest.ensures ∙ c.if-is_empty.false)) in
    let zeros = c.after_zeros-rest-in-loop-rest.ensures.zeros in
    let block = read_block c.args.tape.now c.loop-rest.rest.now read.0 c.in_ok-block.block.address c.in_ok-block.block.bytes.now c.in_ok-block.block.after.now read.1 c.loop-rest.invariant.1 c.in_ok-block.ensures.ok some in
    let counted : length (read.0 ++ enumerate_from c.in_ok-block.block.address c.in_ok-block.block.bytes.now) ≡ c.loop-rest.count + length c.in_ok-block.block.bytes.now =
    omega (arith, length-append read.0 (enumerate_from c.in_ok-block.block.address c.in_ok-block.block.bytes.now), length-enumerate_from c.in_ok-block.block.address c.in_ok-block.block.bytes.now, read.2) in
    ((_, read_zeros c.args.tape.now c.in_ok-block.block.after.now c.after_zeros-rest-in-loop-rest.result.now _ block zeros, counted), zeros.all, omega (arith, c.in_ok-block.ensures.shorter, c.after_zeros-rest-in-loop-rest.ensures.shorter))

pub returns-then-is_empty-clause-ok : goal.returns-then-is_empty-clause-ok
returns-then-is_empty-clause-ok c =
    let read = c.loop-rest.invariant.0 in
    let none : length c.in_ok-block.block.bytes.now ≡ 0 = eqb-true (length c.in_ok-block.block.bytes.now) 0 (sym c.is_empty-in-loop-rest.ensures ∙ c.if-is_empty.true) in
    let means = read_last c.args.tape.now c.loop-rest.rest.now read.0 c.in_ok-block.block.address c.in_ok-block.block.bytes.now c.in_ok-block.block.after.now read.1 c.loop-rest.invariant.1 c.in_ok-block.ensures.ok none in
    (record { placed = read.0; start = _ }, means, read.2)

pub returns-after-loop-rest-clause-ok : goal.returns-after-loop-rest-clause-ok
returns-after-loop-rest-clause-ok c =
    let read = c.loop-rest.invariant.0 in
    let none : length c.loop-rest.rest.now ≡ 0 = eqb-true (length c.loop-rest.rest.now) 0 (sym c.is_empty.ensures ∙ c.loop-rest-test.false) in
    (record { placed = read.0; start = _ }, read_end c.args.tape.now c.loop-rest.rest.now read.0 read.1 none, read.2)
