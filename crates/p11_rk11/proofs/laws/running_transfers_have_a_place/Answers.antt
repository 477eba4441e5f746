use Rattle.p11_rk11.proofs.Reachable.{reachable_new, reachable_after_write, reachable_after_turn, reachable_after_init, reachable_after_service, reachable_after_mount, reachable_after_unmount}
use Rattle.p11_rk11.proofs.laws.running_transfers_have_a_place.Goals as goal

pub returns-clause-new : goal.returns-clause-new
returns-clause-new c = reachable_new

pub returns-clause-write : goal.returns-clause-write
returns-clause-write c = reachable_after_write

pub returns-clause-acts : goal.returns-clause-acts
returns-clause-acts c = reachable_after_turn

pub returns-clause-init : goal.returns-clause-init
returns-clause-init c = reachable_after_init

pub returns-clause-service : goal.returns-clause-service
returns-clause-service c = reachable_after_service

pub returns-clause-mount : goal.returns-clause-mount
returns-clause-mount c = reachable_after_mount

pub returns-clause-unmount : goal.returns-clause-unmount
returns-clause-unmount c = reachable_after_unmount
