use Rattle.std.proofs.Common.{◌<◌, length, arith, refl, inr}
use Rattle.p11_handles.proofs.RowLemmas.{is_no_row, row_of_more, fit_of_more}
use Rattle.p11_handles.proofs.rows.read_row.Goals as goal

pub returns-in_default-clause-err : goal.returns-in_default-clause-err
returns-in_default-clause-err c =
    let some : 0 < length c.loop-rest.rest.now = grind arith in
    inr (refl, is_no_row c.args.row.now c.loop-rest.rest.now c.loop-rest.files.items c.loop-rest.invariant.read c.loop-rest.invariant.fit some c.in_default.ensures.file)

pub loop-rest-preserved : goal.loop-rest-preserved
loop-rest-preserved c = record {
  read = row_of_more c.args.row.now c.loop-rest.files.items c.push.new.self.items c.in_ok-file.file c.in-Some.next.name.now c.in-Some.next.bytes.now c.loop-rest.rest.now c.in-Some.next.after.now c.loop-rest.invariant.read c.in-Some.ensures.file c.in_ok-file.ensures c.in_ok-push.ensures.items;
  fit = fit_of_more c.loop-rest.files.items c.push.new.self.items c.in_ok-file.file c.in-Some.next.name.now c.in-Some.next.bytes.now c.loop-rest.rest.now c.in-Some.next.after.now c.loop-rest.invariant.fit c.in-Some.ensures.file c.in_ok-file.ensures c.in_ok-push.ensures.items;
}
