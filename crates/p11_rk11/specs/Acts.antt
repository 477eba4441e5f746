-- What the controller does in a turn: the transfer moves the sector that is due, and then the seeks that
-- are due finish.
use Rattle.std.specs.Prelude.{ℕ, zero, suc, Bool, true, false, not, ◌&&◌, List, [], Option, Some, None, nat_eq, map, take, if◌then◌else◌}
use Rattle.std.specs.Cmp.Lexicographic.{pointwise}
use Rattle.std.specs.List.{range_with_len}
use Rattle.p11_overlay.specs.Drive.{Contents, written, sector_of}
use Rattle.p11_words.specs.DueTurns.{is_due}
use Rattle.p11_rk11.specs.declared.errors.Failure.TheVariants.{NoMemory}
use Rattle.p11_rk11.specs.declared.function.Function.{Function}
use Rattle.p11_rk11.specs.declared.function.Function.TheVariants.{Write, Read, WriteCheck}
use Rattle.p11_rk11.specs.declared.mounted.PendingSeek.{PendingSeek}
use Rattle.p11_rk11.specs.declared.registers.Registers.{Registers}
use Rattle.p11_rk11.specs.Drives.{MountedDrive}
use Rattle.p11_rk11.specs.Functions.{uses_memory, is_read}
use Rattle.p11_memory.specs.Memory.{Words, all_held, all_stored}
use Rattle.p11_rk11.specs.Place.{sector_number}
use Rattle.p11_rk11.specs.Registers.{addresses, ended, failed, requested, registers_after_sector, words_moved}
use Rattle.p11_rk11.specs.Sector.{words_of_sector, bytes_of_words, words_from, sector_from}
use Rattle.p11_rk11.specs.State.{Rk11State, drive_count, drive_of, with_registers_and_drive, selected, seek_turn}

-- the words of the drive's sector at RKDA
abbrev pub sector_words : Registers → Contents → List ℕ
sector_words r contents = words_of_sector (sector_of contents (sector_number r.disk_address))

-- For functions 1 to 3 each address is checked before anything moves.
unfoldable pub is_refused : Registers → Words → Bool
is_refused r memory = uses_memory r.function && not (all_held (addresses r) (words_moved r) memory)

-- A write stores the words of memory in the sector, and zeros behind them.
unfoldable pub contents_after_sector : Function → Registers → Words → Contents → Contents
contents_after_sector Write r memory contents =
    written contents (sector_number r.disk_address) (bytes_of_words (sector_from (addresses r) (words_moved r) memory))
contents_after_sector _ r memory contents = contents

-- A read stores the sector's first words in memory.
unfoldable pub memory_after_sector : Function → Registers → Contents → Words → Words
memory_after_sector Read r contents memory = all_stored (addresses r) (sector_words r contents) (words_moved r) memory
memory_after_sector _ r contents memory = memory

-- A write check compares the words of memory with the sector's first words.
unfoldable pub differs : Function → Registers → Contents → Words → Bool
differs WriteCheck r contents memory =
    not (pointwise nat_eq (words_from (addresses r) (words_moved r) memory)
    (take (words_moved r) (sector_words r contents)))
differs _ r contents memory = false

-- One sector: where an address isn't memory, nothing moves, no counter does, and the function ends with no memory. Else
-- the heads come to its cylinder.
unfoldable pub after_sector : ℕ → Registers → MountedDrive → Words → Registers × MountedDrive × Words
after_sector turn r drive memory =
    if is_refused r memory then (failed NoMemory r, drive, memory)
    else (
      registers_after_sector turn (differs r.function r drive.contents memory) r,
      record drive {
        contents = contents_after_sector r.function r memory drive.contents;
        cylinder = r.disk_address.cylinder;
      },
      memory_after_sector r.function r drive.contents memory,
    )

-- A running transfer has a mounted drive. (One without would end.)
abbrev pub after_sector_on : ℕ → Registers → Option MountedDrive → Words → Registers × Option MountedDrive × Words
after_sector_on turn r None memory = (ended r, None, memory)
after_sector_on turn r (Some drive) memory =
    let after = after_sector turn r drive memory in (after.0, Some after.1, after.2)

-- the sector of a transfer, if it is due
unfoldable pub disk_after_transfer : ℕ → Rk11State → Words → Rk11State × Words
disk_after_transfer turn s memory =
    let after = after_sector_on turn s.registers (selected s) memory in
    if is_due turn s.registers.transfer
    then (with_registers_and_drive s s.registers.disk_address.drive (after.0, after.1), after.2) else (s, memory)

-- The addresses to which the acts of a turn may store: those of the words of a read's sector that is due.
unfoldable pub stores_of : ℕ → Rk11State → List ℕ
stores_of turn s =
    if is_due turn s.registers.transfer && is_read s.registers.function
    then map (addresses s.registers) (range_with_len 0 (words_moved s.registers)) else []

-- the heads of a drive are where its seek sent them
abbrev pub drive_after_seek : Option PendingSeek → MountedDrive → MountedDrive
drive_after_seek None drive = drive
drive_after_seek (Some seek) drive = record drive { cylinder = seek.cylinder; seek = None }

unfoldable pub registers_after_seek : ℕ → Registers → Registers
registers_after_seek n r = requested (record r { search_complete = true; finished_seek = n })

-- A seek that is due: the heads are there, RKCS 13 is set, RKDS 15:13 is the drive, and there is a request.
abbrev pub after_seek_on : ℕ → ℕ → Registers → Option MountedDrive → Registers × Option MountedDrive
after_seek_on turn n r None = (r, None)
after_seek_on turn n r (Some drive) =
    if is_due turn (seek_turn drive.seek) then (registers_after_seek n r, Some (drive_after_seek drive.seek drive))
    else (r, Some drive)

unfoldable pub disk_after_seek : ℕ → ℕ → Rk11State → Rk11State
disk_after_seek turn n s = with_registers_and_drive s n (after_seek_on turn n s.registers (drive_of s n))

-- the seeks of the first n drives, by number
unfoldable pub disk_after_seeks : ℕ → ℕ → Rk11State → Rk11State
disk_after_seeks turn zero s = s
disk_after_seeks turn (suc n) s = disk_after_seek turn n (disk_after_seeks turn n s)

-- the controller and memory after a turn's acts
unfoldable pub disk_after_turn : ℕ → Rk11State → Words → Rk11State × Words
disk_after_turn turn s memory =
    let moved = disk_after_transfer turn s memory in (disk_after_seeks turn drive_count moved.0, moved.1)
