-- What the operator does to the devices between turns, and sees of them and of memory management.
use Rattle.std.specs.Prelude.{ℕ, List, Bool, not, ◌&&◌, is_none, Result}
use Rattle.p11_kt11.specs.Registers.{status_0_word}
use Rattle.p11_dl11.specs.ReceiverEvents.{receiver_room}
use Rattle.p11_dl11.specs.declared.line.KeysFull.{KeysFull}
use Rattle.p11_overlay.specs.Drive.{mounted}
use Rattle.p11_unibus.specs.declared.devices.BusDevices.{BusDevices}
use Rattle.p11_unibus.specs.Acts.{is_any_due}
use Rattle.p11_unibus.specs.Devices.{devices_of}
use Rattle.p11_unibus.specs.Events.{bus_after_key, bus_after_period, bus_after_tick, bus_after_switches, bus_after_take, bus_after_mount, bus_after_unmount}
use Rattle.p11_unibus.specs.Requests.{highest_request}
use Rattle.p11_cpu.specs.State.{State}

-- whether the machine idles: the processor waits, no device is due at a later turn, and no request stands above the
-- processor's priority
unfoldable pub is_idle : State → Bool
is_idle s =
    (s.processor.waiting && not (is_any_due s.turns s.bus))
    && is_none (highest_request s.processor.status.priority s.bus)

-- the typed characters are taken
unfoldable pub take_typed_of : State → State
take_typed_of s = record s { bus = bus_after_take s.bus }

-- a key is pressed, which is refused where as many wait as may
unfoldable pub key_of : ℕ → State → State × Result (Unit {0}) KeysFull
key_of key s = let (bus, outcome) = bus_after_key key s.bus in (record s { bus = bus }, outcome)

-- how many more keys may wait
unfoldable pub room_of : State → ℕ
room_of s = receiver_room s.bus.line.receiver

-- the line ticks
unfoldable pub tick_of : State → State
tick_of s = record s { bus = bus_after_tick s.bus }

-- a period is set after which the line ticks by itself, again and again; from here on the turns are counted
unfoldable pub set_period_of : ℕ → State → State
set_period_of period s = record s { bus = bus_after_period s.turns period s.bus }

-- the switches are set
unfoldable pub set_switches_of : ℕ → State → State
set_switches_of word s = record s { bus = bus_after_switches word s.bus }

-- a pack that holds an image, and zeros behind it, is mounted on drive n
unfoldable pub mount_of : ℕ → List ℕ → Bool → State → State
mount_of n image protected s = record s { bus = bus_after_mount n (mounted image protected) s.bus }

-- the pack of drive n is taken off
unfoldable pub unmount_of : ℕ → State → State
unmount_of n s = record s { bus = bus_after_unmount n s.bus }

-- what is shown of the devices
unfoldable pub machine_devices_of : State → BusDevices
machine_devices_of s = devices_of s.turns s.bus

-- what SR0 and SR2 of memory management show
unfoldable pub status_0_of : State → ℕ
status_0_of s = status_0_word s.management.status

unfoldable pub status_2_of : State → ℕ
status_2_of s = s.management.instruction
