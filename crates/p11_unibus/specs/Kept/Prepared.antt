-- The memory that was found for the acts of a turn.
use Rattle.std.specs.Prelude.{ℕ, List, ◌≡◌, ◌<◌, true, is_some}
use Rattle.p11_unibus.specs.HostMemory.{Prepared}
use Rattle.p11_dl11.specs.TransmitterEvents.{typed_in}
use Rattle.p11_unibus.specs.State.{BusState}
use Rattle.p11_rk11.specs.Kept.View as disks

-- typed characters, and for how many more there is room
pub record TypedView : Type 0 where
  pub bytes : List ℕ
  pub room : ℕ

-- the disk controller with what is prepared of its drives
abbrev pub disk_view : BusState → Prepared → disks.Rk11View
disk_view b p = record { state = b.disk; prepared = p.sectors }

-- Prepared for a turn: there is room for a character that is typed in it, and the drive is prepared for a disk write's
-- sector that is due in it.
pub record IsPreparedFor (turn : ℕ) (b : BusState) (p : Prepared) : Type 0 where
  pub typed : is_some (typed_in turn b.line.transmitter) ≡ true → 0 < p.room
  pub disk : disks.IsPreparedFor turn (disk_view b p)
