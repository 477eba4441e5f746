use Rattle.std.proofs.Common.{◌≡◌, ◌∙◌, ap, sym}
use Rattle.p11_lines.specs.declared.answer.Answer.{Answer}
use Rattle.p11_lines.specs.declared.answer.Answer.TheVariants as answers
use Rattle.p11_panel.specs.Calls.Runs.{IsRun, stops_idling}
use Rattle.p11_panel.proofs.ConfinedRuns.{stop_confined}
use Rattle.p11_panel.proofs.RunOutcomes.{run_steps, run_within, stopped_as}
use Rattle.p11_panel.proofs.panel.Panel.make_run.Goals as goal

pub returns-clause-acts : goal.returns-clause-acts
returns-clause-acts g c =
    let last = c.run-made.new.machine.visible in
    let run : IsRun (stops_idling c.args.until_idle) c.args.turns c.args.self.now c.run-made.result.0 c.run-made.result.1 last = rw (← c.self.view_is) c.run-made.ensures in
    let shown : ◌≡◌ {A = Answer g.row.A.Denot} (answers.Stop last.bus.typed c.run-made.result.1 c.run-made.result.0 last.processor.registers.pc) (answers.Stop c.from_vec.result c.run-made.result.1 c.run-made.result.0 c.regs-pc.result.pc) =
    ap (λ registers. answers.Stop last.bus.typed c.run-made.result.1 c.run-made.result.0 registers.pc) (sym c.regs-pc.ensures)
    ∙ ap (λ typed. answers.Stop typed c.run-made.result.1 c.run-made.result.0 c.regs-pc.result.pc) (sym (c.from_vec.ensures ∙ c.take_typed-typed.ensures.typed)) in
    run_steps c.args.until_idle c.args.turns c.run-made.result.0 c.args.self.now c.run-made.result.1 last _ _ c.requires.fault run
    (stopped_as c.run-made.result.1 c.run-made.result.0 last _ _ c.take_typed-typed.ensures.state shown)

pub returns-clause-confined : goal.returns-clause-confined
returns-clause-confined g c =
    let last = c.run-made.new.machine.visible in
    let run : IsRun (stops_idling c.args.until_idle) c.args.turns c.args.self.now c.run-made.result.0 c.run-made.result.1 last = rw (← c.self.view_is) c.run-made.ensures in
    λ confining none. stop_confined c.run-made.result.0 c.args.self.now last _ run.state c.take_typed-typed.ensures.state
    (c.a_user_run_is_confined.ensures c.args.self.now c.run-made.result.0 (rw (← c.self.view_is) c.state_is_well_formed.ensures.management.user) confining none)

pub returns-clause-within : goal.returns-clause-within
returns-clause-within g c =
    let last = c.run-made.new.machine.visible in
    let run : IsRun (stops_idling c.args.until_idle) c.args.turns c.args.self.now c.run-made.result.0 c.run-made.result.1 last = rw (← c.self.view_is) c.run-made.ensures in
    run_within (stops_idling c.args.until_idle) c.args.turns c.run-made.result.0 c.args.self.now last c.run-made.result.1 run
