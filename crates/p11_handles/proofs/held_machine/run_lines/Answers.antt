use Rattle.std.proofs.Common.{Global, Some, Err, ap, inl, inr}
use Rattle.p11_panel.specs.declared.script.SessionFault.{SessionFault}
use Rattle.p11_handles.proofs.HeldLemmas.{ends_done, ends_long, ends_broke}
use Rattle.p11_handles.proofs.ReadLemmas.{many_reads, no_failure, of_script}
use Rattle.p11_handles.proofs.held_machine.run_lines.Goals as goal

pub returns-in-Ok : goal.returns-in-Ok
returns-in-Ok g c answer =
    let e = c.in-Ok.ensures.ok in
    ends_done Global c.args.panel.now c.session.new.panel c.args.store.now c.session.new.store answer c.new.result.items c.session.new.writer.inner.items c.requires.none c.new.ensures.items
    c.args.script.now (Some c.session.new.reader.left.now) e.0 _ (of_script c.new-reader.result.left.now c.args.script.now c.session.new.reader.left.now e.0 c.new-reader.ensures.left e.2.consumed) e.4 e.5

pub returns-in-Err-Writing : goal.returns-in-Err-Writing
returns-in-Err-Writing g c answer =
    let e = c.in-Err-Writing.ensures.broke (ap (λ (f : SessionFault). Err f) c.in-Err-Writing.field-0-is) in
    ends_broke Global c.args.panel.now c.session.new.panel c.args.store.now c.session.new.store answer c.new.result.items c.session.new.writer.inner.items c.requires.none c.new.ensures.items
    c.args.script.now (Some c.session.new.reader.left.now) e.0
    (elim e.2 [ inl front ↦ inl (of_script c.new-reader.result.left.now c.args.script.now c.session.new.reader.left.now e.0 c.new-reader.ensures.left front.0.consumed, front.2) | inr last ↦ inr (of_script c.new-reader.result.left.now c.args.script.now c.session.new.reader.left.now e.0 c.new-reader.ensures.left last.0.consumed, last.2, last.3) ])

pub returns-in-Err-TooLong : goal.returns-in-Err-TooLong
returns-in-Err-TooLong g c answer =
    let e = c.in-Err-TooLong.ensures.long (ap (λ (f : SessionFault). Err f) c.in-Err-TooLong.field-0-is) in
    ends_long Global c.args.panel.now c.session.new.panel c.args.store.now c.session.new.store answer c.new.result.items c.session.new.writer.inner.items c.requires.none c.new.ensures.items
    c.args.script.now (Some c.session.new.reader.left.now) e.0 _ (of_script c.new-reader.result.left.now c.args.script.now c.session.new.reader.left.now e.0 c.new-reader.ensures.left e.3.consumed) (many_reads c.new-reader.result.left.now c.session.new.reader.left.now e.0 c.new-reader.result.reads.made c.session.new.reader.reads.made _ e.2 c.new-reader.ensures.reads c.session.new.reader.filled e.3 e.4) e.5

pub unreachable-requires : goal.unreachable-requires
unreachable-requires g c =
    let e = c.in-Err-Reading.ensures.reading (ap (λ (f : SessionFault). Err f) c.in-Err-Reading.field-0-is) in
    no_failure c.new-reader.result.left.now c.session.new.reader.left.now e.0 c.new-reader.result.reads.made c.session.new.reader.reads.made _ e.2 c.new-reader.ensures.reads c.session.new.reader.filled e.3
