use Rattle.std.proofs.Common.{◌+◌, arith, rules, take, ◌++◌, inl, inr}
use Rattle.std.proofs.lemmas.Grind.{common_steps}
use Rattle.p11_panel.specs.Session.{with_store}
use Rattle.p11_panel.proofs.SessionLemmas.{reached_none, reached_more, reads_failed, reads_ended, reads_more, some_room}
use Rattle.p11_panel.proofs.script.session.Goals as goal

pub loop-turn-init : goal.loop-turn-init
loop-turn-init g c = record {
  few = omega arith;
  reached = reached_none (g.R.Source.state c.args.reader.now) (with_store c.args.panel.now (g.S.Store.state c.args.store.now)) (g.W.Sink.state c.args.writer.now) c.new-buffer.result c.new-buffer.ensures;
}

pub returns-in_default-clause-reading : goal.returns-in_default-clause-reading
returns-in_default-clause-reading g c _ =
    let r = c.loop-turn.invariant.reached in (
      r.read,
      c.loop-turn.answered,
      c.loop-turn._turn,
      reads_failed (g.R.Source.state c.args.reader.now) (g.R.Source.state c.loop-turn.reader) (g.R.Source.state c.read.new.self) r.read c.read.new.bytes _ r.reads c.in_default.ensures.bytes c.in_default.ensures.calls (search rules),
      omega (arith, c.loop-turn-test.true),
      r.stands.done,
    )

pub returns-then-len-eq0-clause-ok : goal.returns-then-len-eq0-clause-ok
returns-then-len-eq0-clause-ok g c =
    let r = c.loop-turn.invariant.reached in (
      r.read,
      c.loop-turn._turn,
      reads_ended (g.R.Source.state c.args.reader.now) (g.R.Source.state c.loop-turn.reader) (g.R.Source.state c.read.new.self) r.read c.read.new.bytes c.in-Ok.len _ r.reads c.in-Ok.ensures.bytes.0 c.in-Ok.ensures.calls (search rules) c.if-len-eq0.true,
      omega (arith, c.loop-turn-test.true),
      c.in-Ok.ensures.bytes.1 c.if-len-eq0.true (some_room c.read.new.bytes (search rules)),
      c.in_ok-answered.ensures.ok r.read (with_store c.args.panel.now (g.S.Store.state c.args.store.now)) (g.W.Sink.state c.args.writer.now) c.loop-turn.answered r.stands,
    )

pub returns-clause-long : goal.returns-clause-long
returns-clause-long g c _ =
    let r = c.loop-turn.invariant.reached in (
      r.read,
      c.loop-turn.answered,
      c.loop-turn._turn,
      r.reads,
      omega (arith, c.loop-turn-test.false, c.loop-turn.auto._turn-end),
      r.stands.done,
    )

pub returns-in_err-answered-clause-broke : goal.returns-in_err-answered-clause-broke
returns-in_err-answered-clause-broke g c _ =
    let r = c.loop-turn.invariant.reached in (
      r.read,
      c.loop-turn._turn,
      inr (
        reads_ended (g.R.Source.state c.args.reader.now) (g.R.Source.state c.loop-turn.reader) (g.R.Source.state c.read.new.self) r.read c.read.new.bytes c.in-Ok.len _ r.reads c.in-Ok.ensures.bytes.0 c.in-Ok.ensures.calls (search rules) c.if-len-eq0.true,
        omega (arith, c.loop-turn-test.true),
        c.in-Ok.ensures.bytes.1 c.if-len-eq0.true (some_room c.read.new.bytes (search rules)),
        c.in_err-answered.ensures.err r.read (with_store c.args.panel.now (g.S.Store.state c.args.store.now)) (g.W.Sink.state c.args.writer.now) c.loop-turn.answered r.stands,
      ),
    )

pub returns-in_err-answered-2-clause-broke : goal.returns-in_err-answered-2-clause-broke
returns-in_err-answered-2-clause-broke g c _ =
    let r = c.loop-turn.invariant.reached in (
      r.read ++ take c.in-Ok.len c.read.new.bytes,
      c.loop-turn._turn + 1,
      inl (
        reads_more (g.R.Source.state c.args.reader.now) (g.R.Source.state c.loop-turn.reader) (g.R.Source.state c.read.new.self) r.read c.read.new.bytes c.in-Ok.len _ r.reads c.in-Ok.ensures.bytes.0 c.in-Ok.ensures.calls (search rules) c.in-Ok.ensures.bound.0 c.if-len-eq0.false,
        omega (arith, c.loop-turn-test.true),
        c.in_err-answered-2.ensures.err r.read (with_store c.args.panel.now (g.S.Store.state c.args.store.now)) (g.W.Sink.state c.args.writer.now) c.loop-turn.answered r.stands,
      ),
    )

pub loop-turn-preserved : goal.loop-turn-preserved
loop-turn-preserved g c =
    let r = c.loop-turn.invariant.reached in
    record {
      few = grind (arith, common_steps, c.in_ok-answered-2.ensures.few);
      reached = reached_more c.loop-turn._turn (g.R.Source.state c.args.reader.now) (g.R.Source.state c.loop-turn.reader) (g.R.Source.state c.read.new.self) _ _ _ _ c.loop-turn.answered _ c.read.new.bytes c.in-Ok.len _ _ _ _ r c.in-Ok.ensures.bytes.0 c.in-Ok.ensures.calls (search rules) c.in-Ok.ensures.bound.0 c.if-len-eq0.false
          (c.in_ok-answered-2.ensures.ok r.read (with_store c.args.panel.now (g.S.Store.state c.args.store.now)) (g.W.Sink.state c.args.writer.now) c.loop-turn.answered r.stands);
    }
