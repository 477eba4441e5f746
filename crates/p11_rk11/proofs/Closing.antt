-- A controller whose fields were changed is one again: all drives are there, and a running transfer has its place.
use Rattle.std.proofs.Common.{◌≡◌, ℕ, ◌<◌, false, true, List, length, set, get_or, Option, Some, None, is_some, refl, ap, sym, subst, ◌∙◌}
use Rattle.std.proofs.lemmas.List.{length-set}
use Rattle.p11_rk11.specs.declared.registers.Registers.{Registers}
use Rattle.p11_rk11.specs.Acts.{after_seek_on, after_sector_on, disk_after_seek}
use Rattle.p11_rk11.specs.Drives.{MountedDrive}
use Rattle.p11_rk11.specs.Kept.View.{MountedState}
use Rattle.p11_rk11.specs.Laws.Registers.{TransferHasPlace}
use Rattle.p11_memory.specs.Memory.{Words}
use Rattle.p11_rk11.specs.Calls.Places.{is_on_disk}
use Rattle.p11_words.specs.DueTurns.{is_due}
use Rattle.p11_rk11.specs.Starts.{after_start_on}
use Rattle.p11_rk11.specs.State.{Rk11State, drive_count, drive_of, selected, with_drive, with_registers_and_drive, drive_after_init, disk_after_unmount, is_busy}
use Rattle.p11_rk11.specs.Kept.View.{Rk11View, view_of, visible_drive}
use Rattle.p11_rk11.proofs.Parts.{drive_changed, drive_mapped, part_changed, selected_changed, visible_same}
use Rattle.p11_rk11.proofs.Reachable.{idle, same_registers, changed_reachable, reachable_after_unmount, seek_acted, started_on, moved_on, due_runs}

abbrev pub Kept : Registers → List (Option MountedState) → Type 0
Kept r drives = (length drives ≡ drive_count) × TransferHasPlace (view_of r drives).state

pub kept_registers : (r r' : Registers) (drives : List (Option MountedState)) → r'.transfer ≡ r.transfer → r'.disk_address ≡ r.disk_address → Kept r drives → Kept r' drives
kept_registers r r' drives transfer place h = (h.0, same_registers (view_of r drives).state r' transfer place h.1)

pub kept_idle : (r : Registers) (drives : List (Option MountedState)) → r.transfer ≡ None → length drives ≡ drive_count → Kept r drives
kept_idle r drives none len = (len, idle (view_of r drives).state none)

-- one drive was changed
kept_drive : (r : Registers) (drives : List (Option MountedState)) (n : ℕ) (b : Option MountedState) (t : Rk11State) → length drives ≡ drive_count
    → (view_of r (set drives n b)).state ≡ t → TransferHasPlace t → Kept r (set drives n b)
kept_drive r drives n b t len is h =
    let P : Rk11State → Type 0 = λ t. TransferHasPlace t in
    (length-set drives n b ∙ len, subst P (sym is) h)

pub kept_mounted : (r : Registers) (drives : List (Option MountedState)) (n : ℕ) (m : MountedState) → n < drive_count → Kept r drives → Kept r (set drives n (Some m))
kept_mounted r drives n m lt h =
    let s : Rk11State = (view_of r drives).state in
    kept_drive r drives n (Some m) (with_drive s n (Some m.visible)) h.0 (drive_changed r drives n (Some m) lt) (changed_reachable s n (Some m.visible) (λ here. refl) h.1)

pub kept_unmounted : (v : Rk11View) (r : Registers) (drives : List (Option MountedState)) (n : ℕ) → view_of r drives ≡ v → n < drive_count → is_busy n v.state ≡ false
    → Kept r drives → Kept r (set drives n None)
unfolding disk_after_unmount
kept_unmounted v r drives n view lt free h =
    let s : Rk11State = (view_of r drives).state in
    let P : Rk11View → Type 0 = λ v. is_busy n v.state ≡ false in
    kept_drive r drives n None (with_drive s n None) h.0 (drive_changed r drives n None lt) (reachable_after_unmount s n (subst P (sym view) free) h.1)

pub kept_same : (r : Registers) (drives : List (Option MountedState)) (n : ℕ) (b b' d : Option MountedState) → b ≡ get_or drives n d
    → visible_drive b' ≡ visible_drive b → Kept r drives → Kept r (set drives n b')
kept_same r drives n b b' d is same h =
    kept_drive r drives n b' (view_of r drives).state h.0 (visible_same r drives n b b' d is same) h.1

init_there : (d : Option MountedDrive) → is_some d ≡ true → is_some (drive_after_init d) ≡ true
init_there None there = there
init_there (Some drive) there = refl

pub kept_stopped : (r : Registers) (drives : List (Option MountedState)) (n : ℕ) (b b' d : Option MountedState) → n < drive_count → b ≡ get_or drives n d
    → visible_drive b' ≡ drive_after_init (visible_drive b) → Kept r drives → Kept r (set drives n b')
kept_stopped r drives n b b' d lt is done h =
    let s : Rk11State = (view_of r drives).state in
    kept_drive r drives n b' (with_drive s n (drive_after_init (drive_of s n))) h.0 (drive_mapped r drives n b b' d drive_after_init lt h.0 is done)
    (changed_reachable s n (drive_after_init (drive_of s n)) (init_there (drive_of s n)) h.1)

pub kept_after_seek : (turn n : ℕ) (r r' : Registers) (drives : List (Option MountedState)) (b b' d : Option MountedState) → n < drive_count → b ≡ get_or drives n d
    → after_seek_on turn n r (visible_drive b) ≡ (r', visible_drive b') → Kept r drives → Kept r' (set drives n b')
unfolding disk_after_seek
kept_after_seek turn n r r' drives b b' d lt is done h =
    let s : Rk11State = (view_of r drives).state in
    kept_drive r' drives n b' (disk_after_seek turn n s) h.0 (part_changed r r' drives n b b' d (λ r drive. after_seek_on turn n r drive) lt h.0 is done) (seek_acted turn n s h.1)

pub kept_started : (turn n : ℕ) (r r' : Registers) (drives : List (Option MountedState)) (b b' d : Option MountedState) → n ≡ r.disk_address.drive → n < drive_count
    → b ≡ get_or drives n d → after_start_on turn r (visible_drive b) ≡ (r', visible_drive b') → Kept r drives → Kept r' (set drives n b')
kept_started turn n r r' drives b b' d same lt is done h =
    let s : Rk11State = (view_of r drives).state in
    kept_drive r' drives n b' (with_registers_and_drive s r.disk_address.drive (after_start_on turn r (selected s))) h.0
    (selected_changed r r' drives n b b' d (λ r drive. after_start_on turn r drive) same lt h.0 is done) (started_on turn s (selected s) refl h.1)

-- what a transfer that is due finds
pub due_place : (turn : ℕ) (v : Rk11View) (r : Registers) (drives : List (Option MountedState)) → view_of r drives ≡ v
    → is_due turn v.state.registers.transfer ≡ true → Kept r drives → is_on_disk r.disk_address ≡ true
due_place turn v r drives view due h =
    let P : Rk11View → Type 0 = λ v. is_due turn v.state.registers.transfer ≡ true in
    (h.1 (due_runs turn r.transfer (subst P (sym view) due))).0

pub kept_moved : (turn n : ℕ) (r r' : Registers) (drives : List (Option MountedState)) (b b' d : Option MountedState) (m m' : Words) → n ≡ r.disk_address.drive → n < drive_count
    → is_on_disk r.disk_address ≡ true → b ≡ get_or drives n d → after_sector_on turn r (visible_drive b) m ≡ (r', visible_drive b', m') → Kept r drives → Kept r' (set drives n b')
kept_moved turn n r r' drives b b' d m m' same lt place is done h =
    let s : Rk11State = (view_of r drives).state in
    let step : Registers → Option MountedDrive → Registers × Option MountedDrive = λ r drive. ((after_sector_on turn r drive m).0, (after_sector_on turn r drive m).1) in
    kept_drive r' drives n b' (with_registers_and_drive s r.disk_address.drive (step r (selected s))) h.0
    (selected_changed r r' drives n b b' d step same lt h.0 is (ap (λ (p : Registers × Option MountedDrive × Words). let q : Registers × Option MountedDrive = (p.0, p.1) in q) done))
    (moved_on turn s (selected s) m refl place)
