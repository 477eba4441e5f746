-- What a write of a register does, and how a function begins.
use Rattle.std.specs.Prelude.{ℕ, ◌+◌, ◌*◌, ◌/◌, true, false, not, ◌==◌, ◌&&◌, nat_le, Option, Some, None, is_some, if◌then◌else◌}
use Rattle.std.specs.Int.{abs_diff}
use Rattle.p11_overlay.specs.Geometry.{cylinders, track_sectors}
use Rattle.p11_words.specs.Bits.{bit_of}
use Rattle.p11_rk11.specs.declared.errors.Failure.{Failure}
use Rattle.p11_rk11.specs.declared.errors.Failure.TheVariants.{NoSector, NoCylinder, NoDisk, Programming, WriteLockout, DriveError}
use Rattle.p11_rk11.specs.declared.function.Function.{Function}
use Rattle.p11_rk11.specs.declared.function.Function.TheVariants.{ControlReset, Seek, DriveReset, WriteLock}
use Rattle.p11_rk11.specs.declared.register.Register.{Register}
use Rattle.p11_rk11.specs.declared.register.Register.TheVariants as register
use Rattle.p11_rk11.specs.declared.registers.Registers.{Registers}
use Rattle.p11_rk11.specs.Drives.{MountedDrive, sector_turns}
use Rattle.p11_rk11.specs.Functions.{function_number, uses_place, is_write}
use Rattle.p11_rk11.specs.Place.{place_of_word}
use Rattle.p11_rk11.specs.Registers.{cleared_registers, ended, failed, requested, with_control, with_enable, is_ready}
use Rattle.p11_rk11.specs.State.{Rk11State, selected, with_registers_and_drive}

-- The checks at GO of a mounted drive, in their order: it seeks; then, for functions 1 to 5, a sector
-- above 11 and a cylinder above 202; then, for a write, the drive's protection.
unfoldable pub drive_check : Registers → MountedDrive → Option Failure
drive_check r drive =
    if is_some drive.seek then Some DriveError
    else (if uses_place r.function && nat_le track_sectors r.disk_address.sector then Some NoSector
    else (if uses_place r.function && nat_le cylinders r.disk_address.cylinder then Some NoCylinder
    else (if is_write r.function && drive.contents.protected then Some WriteLockout
    else None)))

-- the turn in which the heads have come to a cylinder: 16 turns, and one for each cylinder on their way
abbrev pub arrival : ℕ → ℕ → MountedDrive → ℕ
arrival turn cylinder drive = turn + 16 + abs_diff cylinder drive.cylinder

-- a drive whose heads set out for a cylinder
unfoldable pub seeking : ℕ → ℕ → MountedDrive → MountedDrive
seeking turn cylinder drive =
    record drive { seek = Some (record { due = arrival turn cylinder drive; cylinder = cylinder }) }

-- What a function that begins makes of the registers and of its drive. 4 sends the heads to RKDA's cylinder, 6 sends
-- them to cylinder 0, and 7 protects the drive; these three end at once. The others are transfers, which clear ready:
-- the first sector is due when the heads have come to RKDA's cylinder and 32 turns more have passed. (A control reset
-- begins nothing.)
unfoldable pub after_begin : ℕ → Function → Registers → MountedDrive → Registers × MountedDrive
after_begin turn ControlReset r drive = (r, drive)
after_begin turn Seek r drive = (ended r, seeking turn r.disk_address.cylinder drive)
after_begin turn DriveReset r drive = (ended r, seeking turn 0 drive)
after_begin turn WriteLock r drive = (ended r, record drive { contents = record drive.contents { protected = true } })
after_begin turn _ r drive =
    (record r { transfer = Some (arrival turn r.disk_address.cylinder drive + sector_turns) }, drive)

-- a function after the checks of its drive: the first that holds ends it at once
abbrev pub after_check : ℕ → Registers → MountedDrive → Option Failure → Registers × MountedDrive
after_check turn r drive (Some failure) = (failed failure r, drive)
after_check turn r drive None = after_begin turn r.function r drive

-- a function on a drive, where an empty one is no disk
abbrev pub after_start_on : ℕ → Registers → Option MountedDrive → Registers × Option MountedDrive
after_start_on turn r None = (failed NoDisk r, None)
after_start_on turn r (Some drive) =
    let after = after_check turn r drive (drive_check r drive) in (after.0, Some after.1)

-- Functions 1 to 7. First of all format set is a programming error.
unfoldable pub disk_after_start : ℕ → Rk11State → Rk11State
disk_after_start turn s =
    if s.registers.format then record s { registers = failed Programming s.registers }
    else with_registers_and_drive s s.registers.disk_address.drive (after_start_on turn s.registers (selected s))

-- GO: function 0 is a control reset, which leaves seeks running. The others clear RKER 0 and RKCS 13; the other bits of
-- RKER stay until INIT or a control reset. Then come the checks, and the first that holds ends the function at once.
unfoldable pub disk_after_go : ℕ → Rk11State → Rk11State
disk_after_go turn s =
    let r = record s.registers { errors = s.registers.errors / 2 * 2; search_complete = false } in
    if function_number r.function == 0 then record s { registers = cleared_registers }
    else disk_after_start turn (record s { registers = r })

-- A write of RKCS. While ready, GO begins the function; else, where enable rises, there is a request.
unfoldable pub disk_after_control_write : ℕ → ℕ → Rk11State → Rk11State
disk_after_control_write turn word s =
    let r = with_control word (with_enable word s.registers) in
    if not (is_ready s.registers) then record s { registers = with_enable word s.registers }
    else (if bit_of word 1 then disk_after_go turn (record s { registers = r })
    else record s { registers = if bit_of word 0o100 && not s.registers.enable then requested r else r })

-- What RKWC, RKBA and RKDA take. RKBA has no bit 0. The others ignore such a write.
unfoldable pub registers_with_value : Register → ℕ → Registers → Registers
registers_with_value register.WordCount word r = record r { word_count = word }
registers_with_value register.BusAddress word r =
    record r { bus_address = r.bus_address / 0o200000 * 0o200000 + word / 2 * 2 }
registers_with_value register.DiskAddress word r = record r { disk_address = place_of_word word }
registers_with_value _ word r = r

-- A write of a register. One other than RKCS is ignored while not ready.
unfoldable pub disk_after_write : ℕ → Register → ℕ → Rk11State → Rk11State
disk_after_write turn register.ControlStatus word s = disk_after_control_write turn word s
disk_after_write turn register word s =
    if is_ready s.registers then record s { registers = registers_with_value register word s.registers } else s
