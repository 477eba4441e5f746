-- What contracts see of a controller, and the sectors that are prepared for its next act.
use Rattle.std.specs.List.{list_any}
use Rattle.std.specs.Prelude.{ℕ, List, Option, Some, None, [], slice_index_or, map, IsTrue, nat_eq, ◌≡◌, true}
use Rattle.p11_overlay.specs.Drive.{Contents}
use Rattle.p11_overlay.specs.Kept.Prepared.{DriveState}
use Rattle.p11_rk11.specs.Drives.{MountedDrive}
use Rattle.p11_rk11.specs.Place.{sector_number}
use Rattle.p11_rk11.specs.State.{Rk11State, selected}
use Rattle.p11_rk11.specs.View.{write_is_due}
use Rattle.p11_rk11.specs.declared.registers.Registers.{Registers}

-- A mounted drive, and beside it the sectors that may be written without taking memory.
pub record MountedState : Type 0 where
  pub visible : MountedDrive
  pub prepared : List ℕ

-- The state, and beside it for each drive the sectors that may be written without taking memory.
pub record Rk11View : Type 0 where
  pub state : Rk11State
  pub prepared : List (List ℕ)

abbrev pub visible_drive : Option MountedState → Option MountedDrive
visible_drive None = None
visible_drive (Some drive) = Some drive.visible

abbrev pub prepared_sectors : Option MountedState → List ℕ
prepared_sectors None = []
prepared_sectors (Some drive) = drive.prepared

-- what is prepared on drive n; nothing for a number beyond those of the drives
unfoldable pub prepared_on : Rk11View → ℕ → List ℕ
prepared_on v n = slice_index_or v.prepared n []

abbrev pub view_of : Registers → List (Option MountedState) → Rk11View
view_of registers drives =
    record {
      state = record { registers = registers; drives = map visible_drive drives };
      prepared = map prepared_sectors drives;
    }

-- what was prepared on any drive still is
abbrev pub KeepsPrepared : Rk11View → Rk11View → Type 0
KeepsPrepared before after =
    (n m : ℕ) → IsTrue (list_any (nat_eq m) (prepared_on before n)) → IsTrue (list_any (nat_eq m) (prepared_on after n))

-- what a drive holds that is lent out
abbrev pub contents_lent : Option DriveState → Option Contents
contents_lent None = None
contents_lent (Some drive) = Some drive.contents

-- Prepared for a turn: the drive is prepared for a disk write's sector that is due in it.
abbrev pub IsPreparedDrive : Option MountedDrive → List ℕ → ℕ → Type 0
IsPreparedDrive None sectors n = Unit {0}
IsPreparedDrive (Some drive) sectors n = IsTrue (list_any (nat_eq n) sectors)

abbrev pub IsPreparedSector : Rk11View → Type 0
IsPreparedSector v =
    IsPreparedDrive (selected v.state) (prepared_on v v.state.registers.disk_address.drive)
    (sector_number v.state.registers.disk_address)

unfoldable pub IsPreparedFor : ℕ → Rk11View → Type 0
IsPreparedFor turn v = write_is_due turn v.state ≡ true → IsPreparedSector v
