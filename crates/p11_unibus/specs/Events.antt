-- What the operator and INIT do to the devices.
use Rattle.std.specs.Prelude.{ℕ, [], Result}
use Rattle.p11_kw11.specs.LineClock.{clock_after_init, clock_after_period, clock_after_tick}
use Rattle.p11_dl11.specs.LineEvents.{line_after_init, line_after_key}
use Rattle.p11_dl11.specs.declared.line.KeysFull.{KeysFull}
use Rattle.p11_overlay.specs.Drive.{Contents}
use Rattle.p11_memory.specs.Memory.{word_at, stored}
use Rattle.p11_rk11.specs.State.{disk_after_init, disk_after_mount, disk_after_unmount}
use Rattle.p11_unibus.specs.Bytes.{even, with_byte}
use Rattle.p11_unibus.specs.State.{BusState}

-- INIT: each device as its own crate says; memory, switches and typed characters stay
unfoldable pub bus_after_init : BusState → BusState
bus_after_init b =
    record b { clock = clock_after_init b.clock; line = line_after_init b.line; disk = disk_after_init b.disk }

-- a key is pressed, which is refused where as many wait as may
unfoldable pub bus_after_key : ℕ → BusState → BusState × Result (Unit {0}) KeysFull
bus_after_key key b = let after = line_after_key key b.line in (record b { line = after.0 }, after.1)

-- the line ticks
unfoldable pub bus_after_tick : BusState → BusState
bus_after_tick b = record b { clock = clock_after_tick b.clock }

-- a period of the line's ticks is set when so many turns are done
unfoldable pub bus_after_period : ℕ → ℕ → BusState → BusState
bus_after_period turn period b = record b { clock = clock_after_period turn period b.clock }

-- the switches are set
unfoldable pub bus_after_switches : ℕ → BusState → BusState
bus_after_switches word b = record b { switches = word }

-- the typed characters are taken
unfoldable pub bus_after_take : BusState → BusState
bus_after_take b = record b { typed = [] }

-- a pack is mounted on drive n
unfoldable pub bus_after_mount : ℕ → Contents → BusState → BusState
bus_after_mount n contents b = record b { disk = disk_after_mount n contents b.disk }

-- the pack of drive n is taken off
unfoldable pub bus_after_unmount : ℕ → BusState → BusState
bus_after_unmount n b = record b { disk = disk_after_unmount n b.disk }

-- a byte of memory is replaced
unfoldable pub bus_after_byte : ℕ → ℕ → BusState → BusState
bus_after_byte address byte b =
    record b { memory = stored b.memory (even address) (with_byte address byte (word_at b.memory (even address))) }
