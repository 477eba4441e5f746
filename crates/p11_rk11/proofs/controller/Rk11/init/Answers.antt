use Rattle.std.proofs.Common.{◌≡◌, List, Option, length, map, refl, sym, ap, set, get_or, None, ◌∙◌, add-one, arith}
use Rattle.p11_rk11.specs.State.{Rk11State, drive_count, drive_after_init, disk_after_init}
use Rattle.p11_rk11.proofs.Init.{initialized, one_more, all_drives}
use Rattle.std.proofs.Math.ListN.{length-map}
use Rattle.p11_rk11.specs.declared.registers.Registers.{Registers}
use Rattle.p11_rk11.specs.Drives.{MountedDrive}
use Rattle.p11_rk11.specs.Kept.View.{Rk11View, visible_drive}
use Rattle.p11_rk11.specs.Registers.{cleared_registers}
use Rattle.p11_rk11.proofs.Closing.{kept_idle}
use Rattle.p11_rk11.proofs.controller.Rk11.init.Goals as goal

pub loop-n-init : goal.loop-n-init
unfolding initialized
loop-n-init g c = record { registers = refl; drives = refl; prepared = refl }

pub loop-n-preserved : goal.loop-n-preserved
unfolding initialized
loop-n-preserved g c =
    let next = one_more _ _ c.loop-n.n c.loop-n-test.true c.stop.ensures.state in
    record {
      registers = next.0 ∙ c.loop-n.invariant.registers;
      drives = rw (add-one c.loop-n.n) (next.1 ∙ ap (λ d. set d c.loop-n.n (drive_after_init (get_or d c.loop-n.n None))) c.loop-n.invariant.drives);
      prepared = c.stop.ensures.prepared ∙ c.loop-n.invariant.prepared;
    }

pub returns-clause-state : goal.returns-clause-state
unfolding disk_after_init
returns-clause-state g c =
    let seen : map visible_drive c.self.inside.drives ≡ c.loop-n.self.state.drives = ap (λ (v : Rk11View). v.state.drives) c.self.view_is in
    let len : length c.loop-n.self.state.drives ≡ drive_count =
    sym (ap (λ (l : List (Option MountedDrive)). length l) seen) ∙ length-map c.self.inside.drives visible_drive ∙ c.self.invariant.0 in
    let at : c.loop-n.n ≡ drive_count = omega (arith, c.loop-n-test.false, c.loop-n.auto.n-end) in
    let whole : Registers → List (Option MountedDrive) → Rk11State = λ r drives. record { registers = r; drives = drives } in
    ap (λ (drives : List (Option MountedDrive)). whole c.cleared-self-inside.result drives) (seen ∙ all_drives _ _ _ at c.loop-n.invariant.drives len)
    ∙ ap (λ (r : Registers). whole r (map drive_after_init c.args.self.now.state.drives)) c.cleared-self-inside.ensures

pub invariant_of-self : goal.invariant_of-self
unfolding cleared_registers
invariant_of-self g c = kept_idle _ _ (ap (λ (r : Registers). r.transfer) c.cleared-self-inside.ensures) c.self.invariant.0
