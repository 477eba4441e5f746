-- What the operator is shown of the devices, without effect.
use Rattle.std.specs.Prelude.{ℕ, List, Option, length, map, option_map}
use Rattle.std.specs.List.{range_with_len}
use Rattle.p11_kw11.specs.LineClock.{clock_word}
use Rattle.p11_dl11.specs.LineEvents.{line_word}
use Rattle.p11_dl11.specs.ReceiverEvents.{receiver_due}
use Rattle.p11_dl11.specs.TransmitterEvents.{transmitter_due}
use Rattle.p11_dl11.specs.declared.register.Register.TheVariants.{ReceiverStatus, ReceiverBuffer, TransmitterStatus}
use Rattle.p11_rk11.specs.Drives.{MountedDrive}
use Rattle.p11_rk11.specs.State.{Rk11State, disk_word, drive_count, drive_of, seek_turn}
use Rattle.p11_rk11.specs.declared.register.Register.TheVariants as disk
use Rattle.p11_unibus.specs.declared.devices.BusDevices.{BusDevices}
use Rattle.p11_unibus.specs.declared.devices.DiskRegisters.{DiskRegisters}
use Rattle.p11_unibus.specs.declared.devices.DriveShown.{DriveShown}
use Rattle.p11_unibus.specs.State.{BusState}

-- the disk controller, asked between this turn and the next
unfoldable pub disk_registers : ℕ → Rk11State → DiskRegisters
disk_registers turn s =
    record {
      drive_status = disk_word turn disk.DriveStatus s;
      error = disk_word turn disk.Error s;
      control_status = disk_word turn disk.ControlStatus s;
      word_count = disk_word turn disk.WordCount s;
      bus_address = disk_word turn disk.BusAddress s;
      disk_address = disk_word turn disk.DiskAddress s;
      transfer_due = s.registers.transfer;
    }

-- the pack that is mounted on a drive, and where its heads are
abbrev pub drive_shown : MountedDrive → DriveShown
drive_shown drive =
    record {
      protected = drive.contents.protected;
      cylinder = drive.cylinder;
      changed = length drive.contents.changed;
      due = seek_turn drive.seek;
    }

-- the drives by number, and none where no pack is mounted
unfoldable pub drives_shown : Rk11State → List (Option DriveShown)
drives_shown s = map (λ n. option_map drive_shown (drive_of s n)) (range_with_len 0 drive_count)

-- asked between this turn and the next
unfoldable pub devices_of : ℕ → BusState → BusDevices
devices_of turn b =
    record {
      clock = clock_word b.clock;
      clock_period = b.clock.period;
      clock_due = b.clock.due;
      receiver_status = line_word ReceiverStatus b.line;
      receiver_buffer = line_word ReceiverBuffer b.line;
      transmitter_status = line_word TransmitterStatus b.line;
      keys = length b.line.receiver.keys;
      receiver_due = receiver_due turn b.line.receiver;
      transmitter_due = transmitter_due b.line.transmitter;
      disk = disk_registers turn b.disk;
      drives = drives_shown b.disk;
      clock_request = b.clock.request;
      disk_request = b.disk.registers.request;
      receiver_request = b.line.receiver.request;
      transmitter_request = b.line.transmitter.request;
    }
