-- When each device acts.
use Rattle.std.specs.Prelude.{ℕ}
use Rattle.p11_dl11.specs.ReceiverEvents.{receiver_due}
use Rattle.p11_dl11.specs.TransmitterEvents.{transmitter_due}
use Rattle.p11_rk11.specs.Calls.Due.{disk_due}
use Rattle.p11_unibus.specs.declared.due.DueTurns.{DueTurns}
use Rattle.p11_unibus.specs.State.{BusState}

-- asked between this turn and the next: the turns in which the devices act if nothing else happens
unfoldable pub due_of : ℕ → BusState → DueTurns
due_of turn b =
    record {
      clock = b.clock.due;
      receiver = receiver_due turn b.line.receiver;
      transmitter = transmitter_due b.line.transmitter;
      disk = disk_due b.disk;
    }
