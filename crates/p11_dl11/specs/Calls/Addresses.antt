-- The bus addresses of the console line's registers, as the line knows them.
use Rattle.std.specs.Prelude.{ℕ, nat_eq, List, Option, [], ◌∷◌}
use Rattle.std.specs.Map.{lookup}
use Rattle.p11_dl11.specs.declared.register.Register.{Register}
use Rattle.p11_dl11.specs.declared.register.Register.TheVariants.{ReceiverStatus, ReceiverBuffer, TransmitterStatus, TransmitterBuffer}

abbrev pub registers : List (ℕ × Register)
registers =
    (0o777560, ReceiverStatus)
    ∷ (0o777562, ReceiverBuffer)
    ∷ (0o777564, TransmitterStatus)
    ∷ (0o777566, TransmitterBuffer) ∷ []

-- the register at an address, if it is one of the console line's
unfoldable pub register_at : ℕ → Option Register
register_at address = lookup (nat_eq address) registers
