-- What every event keeps: a running transfer is on a mounted drive, and at a place on its pack.
use Rattle.std.proofs.Common.{◌≡◌, ℕ, zero, suc, ◌+◌, ◌*◌, ◌/◌, ◌<◌, Bool, true, false, get_or, Option, Some, None, is_some, refl, sym, ap, subst, ◌∙◌, arith, inl, inr}
use Rattle.std.specs.Prelude.{bit_or, ◌&&◌, ◌||◌, ◌==◌, not, nat_lt, nat_le, if◌then◌else◌}
use Rattle.std.proofs.lemmas.Bool.{both_ways, cases_eq, eq-eqb, ltb-true, ne_eqb, cases_Bool}
use Rattle.p11_overlay.specs.Drive.{Contents}
use Rattle.p11_rk11.specs.declared.errors.Failure.{Failure}
use Rattle.p11_rk11.specs.declared.errors.Failure.TheVariants.{Programming}
use Rattle.p11_rk11.specs.declared.function.Function.{Function}
use Rattle.p11_rk11.specs.declared.function.Function.TheVariants.{ControlReset, Write, Read, WriteCheck, Seek, ReadCheck, DriveReset, WriteLock}
use Rattle.p11_rk11.specs.declared.register.Register.{Register}
use Rattle.p11_rk11.specs.declared.register.Register.TheVariants as register
use Rattle.p11_rk11.specs.declared.registers.Registers.{Registers}
use Rattle.p11_rk11.specs.Acts.{disk_after_turn, disk_after_transfer, disk_after_seek, disk_after_seeks, after_seek_on, after_sector_on, after_sector, registers_after_seek, is_refused, differs}
use Rattle.p11_rk11.specs.Drives.{MountedDrive}
use Rattle.p11_rk11.specs.Functions.{uses_place, function_number}
use Rattle.p11_rk11.specs.Laws.Registers.{TransferHasPlace}
use Rattle.p11_memory.specs.Memory.{Words}
use Rattle.p11_rk11.specs.Place.{Place, next_place}
use Rattle.p11_rk11.specs.Calls.Places.{is_on_disk}
use Rattle.p11_rk11.specs.Registers.{is_ready, ended, failed, requested, cleared_registers, with_enable, with_control, registers_after_sector, counters_advanced, words_left}
use Rattle.p11_words.specs.DueTurns.{is_due}
use Rattle.p11_words.specs.Bits.{bit_of}
use Rattle.p11_rk11.specs.Starts.{drive_check, after_begin, after_check, after_start_on, disk_after_start, disk_after_go, disk_after_control_write, disk_after_write, registers_with_value}
use Rattle.p11_rk11.specs.State.{Rk11State, drive_count, drive_of, with_drive, with_registers_and_drive, selected, new_disk, disk_after_init, disk_after_service, disk_after_mount, disk_after_unmount, is_busy, seek_turn}
use Rattle.p11_rk11.proofs.Turns.{drive_put, drive_left, followed}

other_drive : (a b : Bool) (k n : ℕ) → a || (b && (k == n)) ≡ false → b ≡ true → k ≡ n → ⊥
other_drive true b k n free run e = cc free
other_drive false true k n free run e = both_ways (k == n) free (eq-eqb k n e)
other_drive false false k n free run e = cc run

registers_put : (s : Rk11State) (n : ℕ) (parts : Registers × Option MountedDrive) → (with_registers_and_drive s n parts).registers ≡ parts.0
unfolding with_registers_and_drive
registers_put s n parts = refl

pub idle : (s : Rk11State) → s.registers.transfer ≡ None → TransferHasPlace s
idle s none run = absurd (both_ways _ (ap (λ (o : Option ℕ). is_some o) none) run)

same : (s t : Rk11State) → t.registers.transfer ≡ s.registers.transfer → t.registers.disk_address ≡ s.registers.disk_address
    → (is_some (selected s) ≡ true → is_some (selected t) ≡ true) → TransferHasPlace s → TransferHasPlace t
same s t transfer place there h run =
    let before = h (ap (λ (o : Option ℕ). is_some o) (sym transfer) ∙ run) in
    (ap is_on_disk place ∙ before.0, there before.1)

-- the registers alone are changed
pub same_registers : (s : Rk11State) (r : Registers) → r.transfer ≡ s.registers.transfer → r.disk_address ≡ s.registers.disk_address
    → TransferHasPlace s → TransferHasPlace (record s { registers = r })
unfolding drive_of
same_registers s r transfer place h =
    same s (record s { registers = r }) transfer place
    (λ there. ap (λ (p : Place). is_some (drive_of s p.drive)) place ∙ there) h

there_number : (s : Rk11State) (n : ℕ) → is_some (drive_of s n) ≡ true → n < drive_count
unfolding drive_of
there_number s n there =
    elim (cases_Bool (nat_lt n drive_count)) [
      | inl below ↦ ltb-true n drive_count below
      | inr beyond ↦ absurd (both_ways _ (ap (λ (t : Bool). is_some (if t then get_or s.drives n None else None)) beyond) there)
    ]

-- the registers and the selected drive are changed together
running : (s : Rk11State) (r : Registers) (drive : MountedDrive) → is_some (selected s) ≡ true → r.disk_address.drive ≡ s.registers.disk_address.drive
    → (is_some r.transfer ≡ true → is_on_disk r.disk_address ≡ true)
    → TransferHasPlace (with_registers_and_drive s s.registers.disk_address.drive (r, Some drive))
unfolding with_registers_and_drive
running s r drive there number placed run =
    let n : ℕ = s.registers.disk_address.drive in (
      placed run,
      ap (λ (k : ℕ). is_some (drive_of (with_registers_and_drive s n (r, Some drive)) k)) number
          ∙ ap (λ (d : Option MountedDrive). is_some d)
          (drive_put s r n (Some drive) (there_number s n there) (λ none. absurd (both_ways _ (ap (λ (d : Option MountedDrive). is_some d) none) there))),
    )

pub none_of : (o : Option ℕ) → not (is_some o) ≡ true → o ≡ None
none_of None h = refl
none_of (Some n) h = cc h

not_running : {P : Type 0} (o : Option ℕ) → o ≡ None → is_some o ≡ true → P
not_running o none run = absurd (both_ways _ (ap (λ (o : Option ℕ). is_some o) none) run)

-- the checks at GO have found a place on the pack
checked_place : (r : Registers) (drive : MountedDrive) → drive_check r drive ≡ None → uses_place r.function ≡ true → is_on_disk r.disk_address ≡ true
unfolding drive_check is_on_disk
checked_place r drive none uses = grind arith

begun : (turn : ℕ) (f : Function) (drive : MountedDrive) (r : Registers) → (is_some r.transfer ≡ true → is_on_disk r.disk_address ≡ true) → (uses_place f ≡ true → is_on_disk r.disk_address ≡ true)
    → ((after_begin turn f r drive).0.disk_address ≡ r.disk_address) × (is_some (after_begin turn f r drive).0.transfer ≡ true → is_on_disk r.disk_address ≡ true)
unfolding after_begin uses_place ended requested
begun turn ControlReset drive r before place = (refl, before)
begun turn Write drive r before place = (refl, λ run. place refl)
begun turn Read drive r before place = (refl, λ run. place refl)
begun turn WriteCheck drive r before place = (refl, λ run. place refl)
begun turn Seek drive r before place = (refl, λ run. not_running None refl run)
begun turn ReadCheck drive r before place = (refl, λ run. place refl)
begun turn DriveReset drive r before place = (refl, λ run. not_running None refl run)
begun turn WriteLock drive r before place = (refl, λ run. not_running None refl run)

after_checks : (turn : ℕ) (s : Rk11State) (drive : MountedDrive) (c : Option Failure) → drive_check s.registers drive ≡ c → selected s ≡ Some drive → TransferHasPlace s
    → TransferHasPlace (with_registers_and_drive s s.registers.disk_address.drive ((after_check turn s.registers drive c).0, Some (after_check turn s.registers drive c).1))
unfolding failed ended requested
after_checks turn s drive (Some failure) check is h =
    running s _ _ (ap (λ (d : Option MountedDrive). is_some d) is) refl (λ run. not_running None refl run)
after_checks turn s drive None check is h =
    let b = begun turn s.registers.function drive s.registers (λ run. (h run).0) (checked_place s.registers drive check) in
    running s _ _ (ap (λ (d : Option MountedDrive). is_some d) is) (ap (λ (p : Place). p.drive) b.0) (λ run. ap is_on_disk b.0 ∙ b.1 run)

pub started_on : (turn : ℕ) (s : Rk11State) (d : Option MountedDrive) → selected s ≡ d → TransferHasPlace s
    → TransferHasPlace (with_registers_and_drive s s.registers.disk_address.drive (after_start_on turn s.registers d))
unfolding with_registers_and_drive failed ended requested
started_on turn s None is h = idle _ refl
started_on turn s (Some drive) is h = after_checks turn s drive (drive_check s.registers drive) refl is h

started : (turn : ℕ) (s : Rk11State) → s.registers.transfer ≡ None → TransferHasPlace (disk_after_start turn s)
unfolding disk_after_start failed ended requested
started turn s none =
    let P : Bool → Type 0 = λ t. TransferHasPlace
    (if t then record s { registers = failed Programming s.registers }
    else with_registers_and_drive s s.registers.disk_address.drive (after_start_on turn s.registers (selected s))) in
    elim (cases_Bool s.registers.format) [
      | inl holds ↦ subst P (sym holds) (idle (record s { registers = failed Programming s.registers }) refl)
      | inr fails ↦ subst P (sym fails) (started_on turn s (selected s) refl (idle s none))
    ]

gone : (turn : ℕ) (s : Rk11State) → s.registers.transfer ≡ None → TransferHasPlace (disk_after_go turn s)
unfolding disk_after_go cleared_registers
gone turn s none =
    elim (cases_Bool (function_number s.registers.function == 0)) [
      | inl holds ↦ rw holds (idle _ refl)
      | inr fails ↦ rw fails (started turn (record s { registers = record s.registers { errors = s.registers.errors / 2 * 2; search_complete = false } }) none)
    ]

control_written : (turn word : ℕ) (s : Rk11State) → TransferHasPlace s → TransferHasPlace (disk_after_control_write turn word s)
unfolding disk_after_control_write with_enable with_control requested
control_written turn word s h =
    elim (cases_Bool (is_ready s.registers)) [
      | inr fails ↦ rw fails (same_registers s (with_enable word s.registers) refl refl h)
      | inl holds ↦
          let none : s.registers.transfer ≡ None = none_of s.registers.transfer holds in
          rw holds
          (elim (cases_Bool (bit_of word 1)) [
            | inl go ↦ rw go (gone turn (record s { registers = with_control word (with_enable word s.registers) }) none)
            | inr stay ↦ rw stay
                (elim (cases_Bool (bit_of word 0o100 && not s.registers.enable)) [
                  | inl rises ↦ rw rises (idle _ none)
                  | inr flat ↦ rw flat (idle _ none)
                ])
          ])
    ]

pub value_kept : (register : Register) (word : ℕ) (r : Registers) → (registers_with_value register word r).transfer ≡ r.transfer
unfolding registers_with_value
value_kept register.DriveStatus word r = refl
value_kept register.Error word r = refl
value_kept register.ControlStatus word r = refl
value_kept register.WordCount word r = refl
value_kept register.BusAddress word r = refl
value_kept register.DiskAddress word r = refl
value_kept register.DataBuffer word r = refl

value_written : (register : Register) (word : ℕ) (s : Rk11State) → TransferHasPlace s
    → TransferHasPlace (if is_ready s.registers then record s { registers = registers_with_value register word s.registers } else s)
value_written register word s h =
    elim (cases_Bool (is_ready s.registers)) [
      | inr fails ↦ rw fails h
      | inl holds ↦ rw holds (idle _ (value_kept register word s.registers ∙ none_of s.registers.transfer holds))
    ]

pub reachable_after_write : (s : Rk11State) (turn : ℕ) (register : Register) (word : ℕ) → TransferHasPlace s → TransferHasPlace (disk_after_write turn register word s)
unfolding disk_after_write
reachable_after_write s turn register.DriveStatus word h = value_written register.DriveStatus word s h
reachable_after_write s turn register.Error word h = value_written register.Error word s h
reachable_after_write s turn register.ControlStatus word h = control_written turn word s h
reachable_after_write s turn register.WordCount word h = value_written register.WordCount word s h
reachable_after_write s turn register.BusAddress word h = value_written register.BusAddress word s h
reachable_after_write s turn register.DiskAddress word h = value_written register.DiskAddress word s h
reachable_after_write s turn register.DataBuffer word h = value_written register.DataBuffer word s h

-- A sector that moved is followed by the next place, which is on the pack where a further sector is due.
next_on_disk : (p : Place) → is_on_disk p ≡ true → ((next_place p).cylinder ≡ 203 → ⊥) → is_on_disk (next_place p) ≡ true
unfolding is_on_disk next_place
next_on_disk p on inside = grind arith

next_drive : (p : Place) → (next_place p).drive ≡ p.drive
unfolding next_place
next_drive p =
    elim (cases_Bool (nat_lt (p.sector + 1) 12)) [
      | inl holds ↦ rw holds refl
      | inr fails ↦ rw fails (elim (cases_Bool (p.surface == 0)) [ inl first ↦ rw first refl | inr second ↦ rw second refl ])
    ]

followed_inside : (turn : ℕ) (ends : Bool) (r : Registers) → ((followed turn ends r).disk_address ≡ r.disk_address)
    × (is_some (followed turn ends r).transfer ≡ true → r.disk_address.cylinder ≡ 203 → ⊥)
unfolding ended requested failed
followed_inside turn true r = (refl, λ run. not_running None refl run)
followed_inside turn false r =
    elim (cases_eq r.disk_address.cylinder 203) [
      | inl over ↦ rw (eq-eqb r.disk_address.cylinder 203 over) (refl, λ run. not_running None refl run)
      | inr inside ↦ rw (ne_eqb r.disk_address.cylinder 203 inside) (refl, λ run. inside)
    ]

sector_followed : (turn : ℕ) (difference : Bool) (r : Registers) → is_on_disk r.disk_address ≡ true
    → ((registers_after_sector turn difference r).disk_address ≡ next_place r.disk_address)
    × (is_some (registers_after_sector turn difference r).transfer ≡ true → is_on_disk (next_place r.disk_address) ≡ true)
unfolding registers_after_sector counters_advanced
sector_followed turn difference r on =
    let q : Registers = counters_advanced (record r { errors = if difference then bit_or r.errors 1 else r.errors }) in
    let f = followed_inside turn (nat_le (words_left r) 256 || (difference && r.stop_on_soft_error)) q in
    (f.0, λ run. next_on_disk r.disk_address on (λ over. f.1 run over))

pub moved_on : (turn : ℕ) (s : Rk11State) (d : Option MountedDrive) (memory : Words) → selected s ≡ d → is_on_disk s.registers.disk_address ≡ true
    → TransferHasPlace (with_registers_and_drive s s.registers.disk_address.drive ((after_sector_on turn s.registers d memory).0, (after_sector_on turn s.registers d memory).1))
unfolding after_sector with_registers_and_drive failed ended requested
moved_on turn s None memory is on = idle _ refl
moved_on turn s (Some drive) memory is on =
    let there : is_some (selected s) ≡ true = ap (λ (d : Option MountedDrive). is_some d) is in
    elim (cases_Bool (is_refused s.registers memory)) [
      | inl refused ↦ rw refused (running s _ _ there refl (λ run. not_running None refl run))
      | inr moves ↦
          let f = sector_followed turn (differs s.registers.function s.registers drive.contents memory) s.registers on in
          rw moves
          (running s _ _ there (ap (λ (p : Place). p.drive) f.0 ∙ next_drive s.registers.disk_address)
          (λ run. ap is_on_disk f.0 ∙ f.1 run))
    ]

pub due_runs : (turn : ℕ) (due : Option ℕ) → is_due turn due ≡ true → is_some due ≡ true
unfolding is_due
due_runs turn None holds = cc holds
due_runs turn (Some due) holds = refl

transfer_acted : (s : Rk11State) (memory : Words) (turn : ℕ) → TransferHasPlace s → TransferHasPlace (disk_after_transfer turn s memory).0
unfolding disk_after_transfer
transfer_acted s memory turn h =
    elim (cases_Bool (is_due turn s.registers.transfer)) [
      | inr fails ↦ rw fails h
      | inl holds ↦ rw holds (moved_on turn s (selected s) memory refl (h (due_runs turn s.registers.transfer holds)).0)
    ]

seek_kept : (turn n : ℕ) (r : Registers) (d : Option MountedDrive)
    → ((after_seek_on turn n r d).0.transfer ≡ r.transfer) × ((after_seek_on turn n r d).0.disk_address ≡ r.disk_address) × (is_some (after_seek_on turn n r d).1 ≡ is_some d)
unfolding registers_after_seek requested
seek_kept turn n r None = (refl, refl, refl)
seek_kept turn n r (Some drive) =
    elim (cases_Bool (is_due turn (seek_turn drive.seek))) [ inl holds ↦ rw holds (refl, refl, refl) | inr fails ↦ rw fails (refl, refl, refl) ]

-- a drive put where one was
still_there : (s : Rk11State) (r : Registers) (n k : ℕ) (d : Option MountedDrive) → (is_some (drive_of s n) ≡ true → is_some d ≡ true)
    → is_some (drive_of s k) ≡ true → is_some (drive_of (with_registers_and_drive s n (r, d)) k) ≡ true
still_there s r n k d keeps there =
    elim (cases_eq k n) [
      | inr other ↦ ap (λ (d : Option MountedDrive). is_some d) (drive_left s r n k d other) ∙ there
      | inl e ↦
          let here : is_some (drive_of s n) ≡ true = ap (λ (i : ℕ). is_some (drive_of s i)) (sym e) ∙ there in
          ap (λ (i : ℕ). is_some (drive_of (with_registers_and_drive s n (r, d)) i)) e
          ∙ ap (λ (d : Option MountedDrive). is_some d)
          (drive_put s r n d (there_number s n here) (λ none. absurd (both_ways _ (ap (λ (d : Option MountedDrive). is_some d) none) here)))
          ∙ keeps here
    ]

pub seek_acted : (turn n : ℕ) (s : Rk11State) → TransferHasPlace s → TransferHasPlace (disk_after_seek turn n s)
unfolding disk_after_seek
seek_acted turn n s h =
    let kept = seek_kept turn n s.registers (drive_of s n) in
    let t : Rk11State = with_registers_and_drive s n (after_seek_on turn n s.registers (drive_of s n)) in
    let registers = registers_put s n (after_seek_on turn n s.registers (drive_of s n)) in
    same s t (ap (λ (r : Registers). r.transfer) registers ∙ kept.0) (ap (λ (r : Registers). r.disk_address) registers ∙ kept.1)
    (λ there.
    ap (λ (r : Registers). is_some (drive_of t r.disk_address.drive)) registers
    ∙ ap (λ (p : Place). is_some (drive_of t p.drive)) kept.1
    ∙ still_there s _ n s.registers.disk_address.drive _ (λ here. kept.2 ∙ here) there)
    h

seeks_acted : (turn n : ℕ) (s : Rk11State) → TransferHasPlace s → TransferHasPlace (disk_after_seeks turn n s)
unfolding disk_after_seeks
seeks_acted turn zero s h = h
seeks_acted turn (suc n) s h = seek_acted turn n (disk_after_seeks turn n s) (seeks_acted turn n s h)

pub reachable_after_turn : (s : Rk11State) (memory : Words) (turn : ℕ) → TransferHasPlace s → TransferHasPlace (disk_after_turn turn s memory).0
unfolding disk_after_turn
reachable_after_turn s memory turn h = seeks_acted turn drive_count (disk_after_transfer turn s memory).0 (transfer_acted s memory turn h)

pub reachable_new : TransferHasPlace new_disk
unfolding new_disk cleared_registers
reachable_new = idle new_disk refl

pub reachable_after_init : (s : Rk11State) → TransferHasPlace (disk_after_init s)
unfolding disk_after_init cleared_registers
reachable_after_init s = idle (disk_after_init s) refl

pub reachable_after_service : (s : Rk11State) → TransferHasPlace s → TransferHasPlace (disk_after_service s)
unfolding disk_after_service
reachable_after_service s h = same_registers s (record s.registers { request = false }) refl refl h

drive_put_alone : (s : Rk11State) (n : ℕ) (d : Option MountedDrive) → with_drive s n d ≡ with_registers_and_drive s n (s.registers, d)
unfolding with_registers_and_drive with_drive
drive_put_alone s n d = elim (cases_Bool (nat_lt n drive_count)) [ inl holds ↦ rw holds refl | inr fails ↦ rw fails refl ]

put_reachable : (s : Rk11State) (n : ℕ) (d : Option MountedDrive)
    → (is_some s.registers.transfer ≡ true → is_some (drive_of (with_registers_and_drive s n (s.registers, d)) s.registers.disk_address.drive) ≡ true)
    → TransferHasPlace s → TransferHasPlace (with_drive s n d)
unfolding with_registers_and_drive
put_reachable s n d there h =
    let P : Rk11State → Type 0 = λ t. TransferHasPlace t in
    subst P (sym (drive_put_alone s n d)) (λ run. ((h run).0, there run))

-- a drive that holds a pack, if it held one before
pub changed_reachable : (s : Rk11State) (n : ℕ) (d : Option MountedDrive) → (is_some (drive_of s n) ≡ true → is_some d ≡ true) → TransferHasPlace s → TransferHasPlace (with_drive s n d)
changed_reachable s n d keeps h =
    put_reachable s n d (λ run. still_there s s.registers n s.registers.disk_address.drive d keeps (h run).1) h

pub reachable_after_mount : (s : Rk11State) (n : ℕ) (contents : Contents) → TransferHasPlace s → TransferHasPlace (disk_after_mount n contents s)
unfolding disk_after_mount
reachable_after_mount s n contents h = changed_reachable s n _ (λ here. refl) h

pub reachable_after_unmount : (s : Rk11State) (n : ℕ) → is_busy n s ≡ false → TransferHasPlace s → TransferHasPlace (disk_after_unmount n s)
unfolding disk_after_unmount is_busy
reachable_after_unmount s n busy h =
    put_reachable s n None
    (λ run.
    ap (λ (d : Option MountedDrive). is_some d) (drive_left s s.registers n s.registers.disk_address.drive None (other_drive _ _ s.registers.disk_address.drive n busy run))
    ∙ (h run).1) h
