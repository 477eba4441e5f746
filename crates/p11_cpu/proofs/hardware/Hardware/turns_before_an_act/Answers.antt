use Rattle.std.proofs.Common.{◌≡◌, rules}
use Rattle.p11_unibus.specs.Due.{next_due}
use Rattle.p11_cpu.proofs.WaitingTurns.{rests_before}
use Rattle.p11_cpu.proofs.hardware.Hardware.turns_before_an_act.Goals as goal

pub returns-in-Some-clause-rests : goal.returns-in-Some-clause-rests
returns-in-Some-clause-rests g c =
    let asked : c.next_due.result ≡ next_due c.args.turns c.args.self.now.bus = search rules in
    rests_before c.the_next_due_turn_is_the_first_in_which_a_device_acts.ensures.next c.a_turn_in_which_no_device_acts_changes_nothing.ensures
    _ _ c.in-Some.due _ _ asked c.in-Some.is c.count_before.ensures.before
