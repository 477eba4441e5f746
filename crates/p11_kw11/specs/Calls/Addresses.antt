-- The bus address of the clock's register, as the clock knows it.
use Rattle.std.specs.Prelude.{ℕ, nat_eq, List, Option, [], ◌∷◌}
use Rattle.std.specs.Map.{lookup}
use Rattle.p11_kw11.specs.declared.register.Register.{Register}
use Rattle.p11_kw11.specs.declared.register.Register.TheVariants.{Status}

abbrev pub registers : List (ℕ × Register)
registers = (0o777546, Status) ∷ []

-- the register at an address, if it is the clock's
unfoldable pub register_at : ℕ → Option Register
register_at address = lookup (nat_eq address) registers
