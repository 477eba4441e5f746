use Rattle.std.proofs.Common.{sym, ap, ◌∙◌, arith}
use Rattle.p11_store.specs.Calls.Files.{NamedBytes}
use Rattle.p11_store.proofs.FileLemmas.{found, missed, nothing_found}
use Rattle.p11_store.proofs.memory_store.find.Goals as goal

pub returns-then-eq : goal.returns-then-eq
returns-then-eq g c =
    found c.args.files.now c.loop-left.left c.index-files-left.result c.args.name.now c.as_slice.result.now c.as_slice-then-eq.result.now c.loop-left-test.true c.loop-left.invariant.within c.loop-left.invariant.rest
    c.index-files-left.is (c.as_slice.ensures ∙ ap (λ (f : NamedBytes). f.name) c.file.view_is) (c.as_slice-then-eq.ensures ∙ ap (λ (f : NamedBytes). f.bytes) c.file.view_is) (sym c.eq.ensures ∙ c.if-eq.true)

pub loop-left-preserved : goal.loop-left-preserved
loop-left-preserved g c = record {
  within = omega arith;
  rest = missed c.args.files.now c.loop-left.left c.index-files-left.result c.args.name.now c.as_slice.result.now c.loop-left-test.true c.loop-left.invariant.within c.loop-left.invariant.rest
      c.index-files-left.is (c.as_slice.ensures ∙ ap (λ (f : NamedBytes). f.name) c.file.view_is) (sym c.eq.ensures ∙ c.if-eq.false);
}

pub returns : goal.returns
returns g c = nothing_found c.args.files.now c.loop-left.left c.args.name.now (omega arith) c.loop-left.invariant.rest
