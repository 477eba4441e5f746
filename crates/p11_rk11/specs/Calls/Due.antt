-- The earliest due turn of the controller.
use Rattle.std.specs.Prelude.{ℕ, zero, suc, Option}
use Rattle.p11_rk11.specs.State.{Rk11State, drive_count, drive_of, earlier, seek_due}

-- the earliest due turn of the transfer and the seeks of the first n drives
unfoldable pub due_among : ℕ → Rk11State → Option ℕ
due_among zero s = s.registers.transfer
due_among (suc n) s = earlier (due_among n s) (seek_due (drive_of s n))

-- the earliest turn in which the transfer or a seek acts
unfoldable pub disk_due : Rk11State → Option ℕ
disk_due s = due_among drive_count s
