use Rattle.std.proofs.Common.{Err, ap, inr, refl}
use Rattle.p11_panel.specs.declared.script.SessionFault.{SessionFault}
use Rattle.p11_handles.proofs.ReadLemmas.{many_reads, many_of, no_failure, of_script}
use Rattle.p11_handles.proofs.session.run_script.Goals as goal

pub unreachable-requires : goal.unreachable-requires
unreachable-requires g c =
    let e = c.in-Err-Reading.ensures.reading (ap (λ (f : SessionFault). Err f) c.in-Err-Reading.field-0-is) in
    no_failure c.new-reader.result.left.now c.session.new.reader.left.now e.0 c.new-reader.result.reads.made c.session.new.reader.reads.made _ e.2 c.new-reader.ensures.reads c.session.new.reader.filled e.3

pub returns-clause-err : goal.returns-clause-err
returns-clause-err g c =
    let e = c.in-Err-TooLong.ensures.long (ap (λ (f : SessionFault). Err f) c.in-Err-TooLong.field-0-is) in
    inr (
      refl,
      many_of c.args.script.now c.session.new.reader.left.now e.0
          (of_script c.new-reader.result.left.now c.args.script.now c.session.new.reader.left.now e.0 c.new-reader.ensures.left e.3.consumed)
          (many_reads c.new-reader.result.left.now c.session.new.reader.left.now e.0 c.new-reader.result.reads.made c.session.new.reader.reads.made _ e.2 c.new-reader.ensures.reads c.session.new.reader.filled e.3 e.4),
    )
