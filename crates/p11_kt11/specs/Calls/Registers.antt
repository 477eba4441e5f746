-- Registers of pages that are there.
use Rattle.std.specs.Prelude.{◌<◌}
use Rattle.p11_kt11.specs.declared.register.Register.{Register}
use Rattle.p11_kt11.specs.declared.register.Register.TheVariants.{Descriptor, Address}

-- the page of a PDR or PAR is one of eight
abbrev pub HasPage : Register → Type 0
HasPage (Descriptor space page) = page < 8
HasPage (Address space page) = page < 8
HasPage _ = Unit {0}
