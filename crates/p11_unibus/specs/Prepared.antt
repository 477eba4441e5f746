-- The memory that the acts of a turn need.
use Rattle.std.specs.Prelude.{ℕ, ◌||◌, Bool, is_some}
use Rattle.p11_dl11.specs.TransmitterEvents.{typed_in}
use Rattle.p11_rk11.specs.View as disks
use Rattle.p11_unibus.specs.State.{BusState}

-- Whether the acts of a turn need memory: a character is typed in it, or a disk write's sector is due in it that isn't
-- among the drive's changed ones.
unfoldable pub needs_memory : ℕ → BusState → Bool
needs_memory turn b = is_some (typed_in turn b.line.transmitter) || disks.needs_memory turn b.disk
