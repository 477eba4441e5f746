-- The registers on the I/O page by the devices' own tables.
use Rattle.std.specs.Prelude.{ℕ, Option, Some, None, option_map, ◌==◌, if◌then◌else◌}
use Rattle.std.specs.Option.{option_or}
use Rattle.p11_kw11.specs.Calls.Addresses as clock
use Rattle.p11_dl11.specs.Calls.Addresses as line
use Rattle.p11_rk11.specs.Calls.Addresses as disk
use Rattle.p11_unibus.specs.declared.register.Register.{Register}
use Rattle.p11_unibus.specs.declared.register.Register.TheVariants.{Clock, Line, Disk, Switches}

-- the register of whichever device has one at a bus address, or the switch register
unfoldable pub register_by_device : ℕ → Option Register
register_by_device address =
    option_or (option_map Disk (disk.register_at address))
    (option_or (option_map Clock (clock.register_at address))
    (option_or (option_map Line (line.register_at address))
    (if address == 0o777570 then Some Switches else None)))
