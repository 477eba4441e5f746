use Rattle.std.proofs.Common.{◌≡◌, ◌+◌, ◌<◌, ◌≤◌, false, true, arith, ap, sym, ◌∙◌}
use Rattle.std.specs.Result.{is_err}
use Rattle.p11_panel.specs.Calls.Runs.{stops_idling}
use Rattle.p11_panel.proofs.RunLemmas.{no_turn, none_more, quiet_further, follow_further, many_more, many_that_halt, all_made, no_memory, needs_by, idle_now, still_goes, wait_further, waited_running}
use Rattle.p11_panel.proofs.run.run.Goals as goal

pub loop-made-init : goal.loop-made-init
loop-made-init g c = record { turns = omega arith; within = omega arith; goes = no_turn _ _ _ }

pub returns-then-is_halted : goal.returns-then-is_halted
returns-then-is_halted g c =
    let within : c.loop-made.made + c.quiet_turns-quiet.result ≤ c.args.turns = omega (arith, c.quiet_turns-quiet.ensures.bound, c.loop-made-test.true) in
    many_that_halt c.args.until_idle _ _ _ _ (omega (arith, c.if-quiet-gt0.true))
    (quiet_further c.args.until_idle _ _ _ _ _ _ within c.loop-made.invariant.goes c.quiet_turns-quiet.ensures.made)
    (sym c.is_halted.ensures ∙ c.if-is_halted.true)

pub loop-made-preserved-then-quiet-gt0 : goal.loop-made-preserved-then-quiet-gt0
loop-made-preserved-then-quiet-gt0 g c =
    let within : c.loop-made.made + c.quiet_turns-quiet.result ≤ c.args.turns = omega (arith, c.quiet_turns-quiet.ensures.bound, c.loop-made-test.true) in
    record {
      turns = omega (arith, c.quiet_turns-quiet.ensures.count, c.loop-made.invariant.turns);
      within = within;
      goes = many_more c.args.until_idle _ _ _ _
          (quiet_further c.args.until_idle _ _ _ _ _ _ within c.loop-made.invariant.goes c.quiet_turns-quiet.ensures.made)
          (sym c.is_halted.ensures ∙ c.if-is_halted.false);
    }

pub returns-then-idles : goal.returns-then-idles
returns-then-idles g c =
    let goes = none_more c.args.until_idle _ _ _ _ _ _ (omega (arith, c.if-quiet-gt0.false)) c.loop-made.invariant.goes c.quiet_turns-quiet.ensures.made.state in
    let idle : stops_idling c.args.until_idle c.quiet_turns-quiet.new.self.visible ≡ true = sym c.idles.ensures ∙ c.if-idles.true in
    idle_now (stops_idling c.args.until_idle) _ _ _ _ c.loop-made-test.true idle goes

pub loop-made-preserved-then-waited-gt0 : goal.loop-made-preserved-then-waited-gt0
loop-made-preserved-then-waited-gt0 g c =
    let goes = none_more c.args.until_idle _ _ _ _ _ _ (omega (arith, c.if-quiet-gt0.false)) c.loop-made.invariant.goes c.quiet_turns-quiet.ensures.made.state in
    let busy : stops_idling c.args.until_idle c.quiet_turns-quiet.new.self.visible ≡ false = sym c.idles.ensures ∙ c.if-idles.false in
    let within : c.loop-made.made + c.waiting_turns-waited.result ≤ c.args.turns = omega (arith, c.waiting_turns-waited.ensures.bound, c.loop-made-test.true) in
    let some : 0 < c.waiting_turns-waited.result = omega (arith, c.if-waited-gt0.true) in
    record {
      turns = omega (arith, c.waiting_turns-waited.ensures.count, c.quiet_turns-quiet.ensures.count, c.if-quiet-gt0.false, c.loop-made.invariant.turns);
      within = within;
      goes = many_more c.args.until_idle _ _ _ _
          (wait_further c.args.until_idle _ _ _ _ _ _ within busy goes c.waiting_turns-waited.ensures.made)
          (waited_running _ _ _ some c.waiting_turns-waited.ensures.made);
    }

pub loop-made-preserved : goal.loop-made-preserved
loop-made-preserved g c =
    let still = still_goes c.args.until_idle _ _ _ _ _ _ _ _ (omega (arith, c.if-quiet-gt0.false)) (omega (arith, c.if-waited-gt0.false)) c.loop-made.invariant.goes
    c.quiet_turns-quiet.ensures.made.state (sym c.idles.ensures ∙ c.if-idles.false) c.waiting_turns-waited.ensures.made.state in
    let within : c.loop-made.made + c.in-Ok.more ≤ c.args.turns = omega (arith, c.in-Ok.ensures.bound, c.loop-made-test.true) in
    record {
      turns = omega (arith, c.in-Ok.ensures.count, c.waiting_turns-waited.ensures.count, c.if-waited-gt0.false, c.quiet_turns-quiet.ensures.count, c.if-quiet-gt0.false, c.loop-made.invariant.turns);
      within = within;
      goes = many_more c.args.until_idle _ _ _ _
          (follow_further c.args.until_idle _ _ _ _ _ _ c.loop-made-test.true within still.busy still.goes c.in-Ok.ensures.made)
          (sym c.is_halted-in-Ok.ensures ∙ c.if-is_halted-2.false);
    }

pub returns-then-is_halted-2 : goal.returns-then-is_halted-2
returns-then-is_halted-2 g c =
    let still = still_goes c.args.until_idle _ _ _ _ _ _ _ _ (omega (arith, c.if-quiet-gt0.false)) (omega (arith, c.if-waited-gt0.false)) c.loop-made.invariant.goes
    c.quiet_turns-quiet.ensures.made.state (sym c.idles.ensures ∙ c.if-idles.false) c.waiting_turns-waited.ensures.made.state in
    let within : c.loop-made.made + c.in-Ok.more ≤ c.args.turns = omega (arith, c.in-Ok.ensures.bound, c.loop-made-test.true) in
    let some : 0 < c.in-Ok.more = c.in-Ok.ensures.some in
    many_that_halt c.args.until_idle _ _ _ _ (omega (arith, some))
    (follow_further c.args.until_idle _ _ _ _ _ _ c.loop-made-test.true within still.busy still.goes c.in-Ok.ensures.made)
    (sym c.is_halted-in-Ok.ensures ∙ c.if-is_halted-2.true)

pub returns-in-Err : goal.returns-in-Err
returns-in-Err g c =
    let still = still_goes c.args.until_idle _ _ _ _ _ _ _ _ (omega (arith, c.if-quiet-gt0.false)) (omega (arith, c.if-waited-gt0.false)) c.loop-made.invariant.goes
    c.quiet_turns-quiet.ensures.made.state (sym c.idles.ensures ∙ c.if-idles.false) c.waiting_turns-waited.ensures.made.state in
    no_memory (stops_idling c.args.until_idle) _ _ _ c.waiting_turns-waited.new.self.visible c.try_turns.new.self.visible c.loop-made-test.true still.busy c.in-Err.ensures.err
    (needs_by _ c.try_turns.result c.try_turns.ensures.needless (ap (λ r. is_err r) c.in-Err.is)) still.goes

pub returns : goal.returns
returns g c = all_made _ _ _ _ _ (omega (arith, c.loop-made-test.false, c.loop-made.invariant.within)) c.loop-made.invariant.goes
