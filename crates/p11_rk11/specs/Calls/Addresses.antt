-- The bus addresses of the controller's registers, as the controller knows them.
use Rattle.std.specs.Prelude.{ℕ, nat_eq, List, Option, [], ◌∷◌}
use Rattle.std.specs.Map.{lookup}
use Rattle.p11_rk11.specs.declared.register.Register.{Register}
use Rattle.p11_rk11.specs.declared.register.Register.TheVariants.{DriveStatus, Error, ControlStatus, WordCount, BusAddress, DiskAddress, DataBuffer}

-- Nothing answers at 777414.
abbrev pub registers : List (ℕ × Register)
registers =
    (0o777400, DriveStatus)
    ∷ (0o777402, Error)
    ∷ (0o777404, ControlStatus)
    ∷ (0o777406, WordCount)
    ∷ (0o777410, BusAddress)
    ∷ (0o777412, DiskAddress)
    ∷ (0o777416, DataBuffer) ∷ []

-- the register at an address, if it is one of the controller's
unfoldable pub register_at : ℕ → Option Register
register_at address = lookup (nat_eq address) registers
