-- The operator's commands on the drives, of which each may have a pack mounted on it.
use Rattle.std.specs.Prelude.{ℕ, List, length, nat_lt, nat_le, Option, None, Some, is_some, if◌then◌else◌}
use Rattle.std.specs.Option.{option_map_or}
use Rattle.p11_overlay.specs.Drive.{Contents}
use Rattle.p11_overlay.specs.Geometry.{image_bytes}
use Rattle.p11_rk11.specs.State.{drive_count, drive_of, contents_of}
use Rattle.p11_lines.specs.declared.fault.Fault.{Fault}
use Rattle.p11_lines.specs.declared.fault.Fault.TheVariants.{NoDrive, DriveEmpty, DriveTaken, ImageTooLong}
use Rattle.p11_lines.specs.declared.answer.Answer.{Answer}
use Rattle.p11_lines.specs.declared.answer.Answer.TheVariants.{Refused}
use Rattle.p11_cpu.specs.State.{State}

-- MOUNT: an image of no more than a pack holds, on an empty drive
unfoldable pub mount_fault : ℕ → List ℕ → State → Option Fault
mount_fault drive image s =
    if nat_le drive_count drive then Some NoDrive
    else (if is_some (drive_of s.bus.disk drive) then Some DriveTaken
    else (if nat_lt image_bytes (length image) then Some ImageTooLong else None))

-- a command on the pack that is mounted on a drive
abbrev pub on_pack : {A : Type 0} → ℕ → State → (Contents → State × Answer A) → State × Answer A
on_pack drive s done =
    if nat_le drive_count drive then (s, Refused NoDrive)
    else option_map_or done (contents_of (drive_of s.bus.disk drive)) (s, Refused DriveEmpty)
