-- What the devices do in a turn: the line clock, then the console line's receiver, then its transmitter, and then the
-- disk controller, which moves words from and to memory.
use Rattle.std.specs.Prelude.{ℕ, Bool, List, Option, Some, None, is_some, [], ◌∷◌, ◌++◌}
use Rattle.p11_kw11.specs.LineClock.{clock_after_turn}
use Rattle.p11_dl11.specs.LineEvents.{line_after_turn}
use Rattle.p11_dl11.specs.TransmitterEvents.{typed_in}
use Rattle.p11_rk11.specs.Acts.{disk_after_turn}
use Rattle.p11_unibus.specs.Due.{next_due}
use Rattle.p11_unibus.specs.State.{BusState}

-- typed characters, with one more where there is one
unfoldable pub with_typed : List ℕ → Option ℕ → List ℕ
with_typed typed None = typed
with_typed typed (Some character) = typed ++ character ∷ []

-- the line clock acts
unfoldable pub bus_after_clock : ℕ → BusState → BusState
bus_after_clock turn b = record b { clock = clock_after_turn turn b.clock }

-- the console line acts, and a character that is due is typed
unfoldable pub bus_after_line : ℕ → BusState → BusState
bus_after_line turn b =
    record b { line = line_after_turn turn b.line; typed = with_typed b.typed (typed_in turn b.line.transmitter) }

-- the disk controller acts
unfoldable pub bus_after_disk : ℕ → BusState → BusState
bus_after_disk turn b =
    let after = disk_after_turn turn b.disk b.memory in record b { disk = after.0; memory = after.1 }

unfoldable pub bus_after_turn : ℕ → BusState → BusState
bus_after_turn turn b = bus_after_disk turn (bus_after_line turn (bus_after_clock turn b))

-- whether there is a later turn in which a device acts if nothing else happens
unfoldable pub is_any_due : ℕ → BusState → Bool
is_any_due turn b = is_some (next_due turn b)
