-- The map of the I/O page: each address on the Unibus that answers, and the register that stands there. Nothing answers
-- at 777414.
use Rattle.std.specs.Prelude.{ℕ, nat_eq, Option, [], ◌∷◌}
use Rattle.std.specs.Map.{lookup}
use Rattle.p11_kw11.specs.declared.register.Register.TheVariants as clock
use Rattle.p11_dl11.specs.declared.register.Register.TheVariants as line
use Rattle.p11_rk11.specs.declared.register.Register.TheVariants as disk
use Rattle.p11_unibus.specs.declared.register.Register.{Register}
use Rattle.p11_unibus.specs.declared.register.Register.TheVariants.{Clock, Line, Disk, Switches}

-- the register that stands at a bus address, if one does
unfoldable pub register_at : ℕ → Option Register
register_at address =
    lookup (nat_eq address)
    ((0o777400, Disk disk.DriveStatus)
    ∷ (0o777402, Disk disk.Error)
    ∷ (0o777404, Disk disk.ControlStatus)
    ∷ (0o777406, Disk disk.WordCount)
    ∷ (0o777410, Disk disk.BusAddress)
    ∷ (0o777412, Disk disk.DiskAddress)
    ∷ (0o777416, Disk disk.DataBuffer)
    ∷ (0o777546, Clock clock.Status)
    ∷ (0o777560, Line line.ReceiverStatus)
    ∷ (0o777562, Line line.ReceiverBuffer)
    ∷ (0o777564, Line line.TransmitterStatus)
    ∷ (0o777566, Line line.TransmitterBuffer)
    ∷ (0o777570, Switches) ∷ [])
