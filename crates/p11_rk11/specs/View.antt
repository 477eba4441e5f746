-- When a disk write needs memory.
use Rattle.std.specs.Prelude.{ℕ, Bool, true, ◌&&◌, not, nat_eq, Option}
use Rattle.std.specs.Option.{option_map_or}
use Rattle.std.specs.List.{list_any}
use Rattle.p11_words.specs.DueTurns.{is_due}
use Rattle.p11_rk11.specs.Drives.{MountedDrive}
use Rattle.p11_rk11.specs.Functions.{is_write}
use Rattle.p11_rk11.specs.Place.{sector_number}
use Rattle.p11_rk11.specs.State.{Rk11State, selected}

-- whether a disk write's sector is due in a turn
unfoldable pub write_is_due : ℕ → Rk11State → Bool
write_is_due turn s = is_due turn s.registers.transfer && is_write s.registers.function

-- whether sector n of a drive is among the changed ones, whose writes need no memory; nor does one on an empty drive
abbrev pub is_listed : Option MountedDrive → ℕ → Bool
is_listed drive n = option_map_or (λ drive. list_any (nat_eq n) drive.contents.changed) drive true

-- whether a turn's acts may need memory: a disk write's sector is due that isn't among the changed ones
unfoldable pub needs_memory : ℕ → Rk11State → Bool
needs_memory turn s = write_is_due turn s && not (is_listed (selected s) (sector_number s.registers.disk_address))
