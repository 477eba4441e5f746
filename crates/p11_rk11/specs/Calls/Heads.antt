-- Where a drive's heads are.
use Rattle.std.specs.Prelude.{Option, Some, None}
use Rattle.p11_rk11.specs.Drives.{MountedDrive}
use Rattle.p11_rk11.specs.State.{seek_turn}
use Rattle.p11_rk11.specs.declared.controller.Heads.{Heads}

-- where a drive's heads are, and when its seek is due
abbrev pub heads_at : Option MountedDrive → Option Heads
heads_at None = None
heads_at (Some drive) = Some (record { cylinder = drive.cylinder; due = seek_turn drive.seek })
