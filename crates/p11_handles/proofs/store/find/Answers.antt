use Rattle.std.proofs.Common.{sym, ◌∙◌}
use Rattle.std.specs.Prelude.{option_copied}
use Rattle.p11_handles.proofs.StoreLemmas.{none_yet, found_here, found_before}
use Rattle.p11_handles.proofs.store.find.Goals as goal

pub loop-file-init : goal.loop-file-init
loop-file-init g c = none_yet c.args.name.now

pub loop-file-preserved-then-eq : goal.loop-file-preserved-then-eq
loop-file-preserved-then-eq g c =
    found_here c.args.files.now c.loop-file.file-index c.file-item.result c.args.name.now c.name.result.now c.bytes.result.now c.loop-file-test.true c.file-item.is c.name.ensures c.bytes.ensures (sym c.eq.ensures ∙ c.if-eq.true)

pub loop-file-preserved : goal.loop-file-preserved
loop-file-preserved g c =
    found_before c.args.files.now c.loop-file.file-index c.file-item.result c.args.name.now c.name.result.now (option_copied c.loop-file.found) c.loop-file-test.true c.file-item.is c.name.ensures (sym c.eq.ensures ∙ c.if-eq.false) c.loop-file.invariant
