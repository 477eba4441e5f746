use Rattle.p11_cpu.proofs.WaitingTurns.{machine_waited, none_waited}
use Rattle.p11_cpu.proofs.machine.Machine.waiting_turns.Goals as goal

pub returns-then-not-is_waiting-clause-made : goal.returns-then-not-is_waiting-clause-made
returns-then-not-is_waiting-clause-made g c = none_waited _

pub returns-clause-made : goal.returns-clause-made
returns-clause-made g c = rw (← c.self.view_is) (machine_waited _ _ _ _ c.plus-self-inside.ensures c.waits_through-made.ensures.waits)
