-- The controller with its drives, and what is seen of it between acts.
use Rattle.std.specs.Prelude.{ℕ, ◌+◌, ◌*◌, ◌%◌, min, nat_lt, Bool, false, not, ◌==◌, ◌&&◌, ◌||◌, List, Option, Some, None, is_some, option_map, option_and_then, slice_index_or, slice_set, replicate, map, if◌then◌else◌}
use Rattle.p11_overlay.specs.Drive.{Contents}
use Rattle.p11_overlay.specs.Geometry.{track_sectors}
use Rattle.p11_words.specs.Bits.{flag}
use Rattle.p11_rk11.specs.declared.mounted.PendingSeek.{PendingSeek}
use Rattle.p11_rk11.specs.declared.register.Register.{Register}
use Rattle.p11_rk11.specs.declared.register.Register.TheVariants as register
use Rattle.p11_rk11.specs.declared.registers.Registers.{Registers}
use Rattle.p11_rk11.specs.Drives.{MountedDrive}
use Rattle.p11_rk11.specs.Place.{word_of_place}
use Rattle.p11_rk11.specs.Registers.{cleared_registers, control_word}

-- the number of drives, whose numbers begin with 0
abbrev pub drive_count : ℕ
drive_count = 8

-- The registers, and for each drive what is mounted on it.
pub record Rk11State : Type 0 where
  pub registers : Registers
  pub drives : List (Option MountedDrive)

-- what is mounted on drive n; nothing for a number beyond those of the drives
unfoldable pub drive_of : Rk11State → ℕ → Option MountedDrive
drive_of s n = if nat_lt n drive_count then slice_index_or s.drives n None else None

unfoldable pub with_drive : Rk11State → ℕ → Option MountedDrive → Rk11State
with_drive s n drive = if nat_lt n drive_count then record s { drives = slice_set s.drives n drive } else s

-- the registers and drive n are changed together
unfoldable pub with_registers_and_drive : Rk11State → ℕ → Registers × Option MountedDrive → Rk11State
with_registers_and_drive s n part = record (with_drive s n part.1) { registers = part.0 }

-- the drive that RKDA selects, which is always there: RKDA 15:13 are a number from 0 to 7
abbrev pub selected : Rk11State → Option MountedDrive
selected s = drive_of s s.registers.disk_address.drive

-- a new controller has no drive mounted
unfoldable pub new_disk : Rk11State
new_disk = record { registers = cleared_registers; drives = replicate drive_count None }

-- RKDS, but for 15:13. It is 0 for an empty drive; else 3:0 the sector counter (SC), 4 it equals RKDA 3:0 (SC=SA), 5 write
-- protect (WPS), 6 read/write/seek ready (R/W/S RDY) unless the drive seeks, 7 drive ready (DRY), 8 counter good (SOK), 11 RK05
unfoldable pub status_of : ℕ → ℕ → Option MountedDrive → ℕ
status_of turn sector None = 0
status_of turn sector (Some drive) =
    turn % track_sectors + flag (turn % track_sectors == sector) 0o20 + flag drive.contents.protected 0o40
    + flag (not (is_some drive.seek)) 0o100 + 0o200 + 0o400 + 0o4000

-- the word that a register shows in a turn
unfoldable pub disk_word : ℕ → Register → Rk11State → ℕ
disk_word turn register.DriveStatus s =
    s.registers.finished_seek * 0o20000 + status_of turn s.registers.disk_address.sector (selected s)
disk_word turn register.Error s = s.registers.errors
disk_word turn register.ControlStatus s = control_word s.registers
disk_word turn register.WordCount s = s.registers.word_count
disk_word turn register.BusAddress s = s.registers.bus_address % 0o200000
disk_word turn register.DiskAddress s = word_of_place s.registers.disk_address
disk_word turn register.DataBuffer s = 0

-- the turn in which a seek is done
abbrev pub seek_turn : Option PendingSeek → Option ℕ
seek_turn = option_map (λ seek. seek.due)

-- the due turn of a drive's seek
unfoldable pub seek_due : Option MountedDrive → Option ℕ
seek_due = option_and_then (λ drive. seek_turn drive.seek)

-- the earlier of two due turns
unfoldable pub earlier : Option ℕ → Option ℕ → Option ℕ
earlier None due = due
earlier (Some a) None = Some a
earlier (Some a) (Some b) = Some (min a b)

-- A drive is busy while it seeks or the running transfer is on it.
unfoldable pub is_busy : ℕ → Rk11State → Bool
is_busy n s = is_some (seek_due (drive_of s n)) || (is_some s.registers.transfer && s.registers.disk_address.drive == n)

-- what the pack of a drive holds
abbrev pub contents_of : Option MountedDrive → Option Contents
contents_of = option_map (λ drive. drive.contents)

-- INIT for one drive: a seek ends, and its heads stay where they were before it
abbrev pub drive_after_init : Option MountedDrive → Option MountedDrive
drive_after_init = option_map (λ (drive : MountedDrive). record drive { seek = None })

-- INIT clears the registers, and so ends a transfer; it ends all seeks.
unfoldable pub disk_after_init : Rk11State → Rk11State
disk_after_init s = record { registers = cleared_registers; drives = map drive_after_init s.drives }

-- A pack is mounted on drive n, whose heads are then at cylinder 0.
unfoldable pub disk_after_mount : ℕ → Contents → Rk11State → Rk11State
disk_after_mount n contents s = with_drive s n (Some (record { contents = contents; cylinder = 0; seek = None }))

-- the pack of drive n is taken off
unfoldable pub disk_after_unmount : ℕ → Rk11State → Rk11State
disk_after_unmount n s = with_drive s n None

-- the service of the request drops it
unfoldable pub disk_after_service : Rk11State → Rk11State
disk_after_service s = record s { registers = record s.registers { request = false } }
