-- The stack limit of kernel mode, and where a value of the stack pointer lies by it.
use Rattle.std.specs.Prelude.{ℕ, ◌+◌, nat_le, if◌then◌else◌}
use Rattle.p11_psw.specs.declared.zones.Zone.{Zone}
use Rattle.p11_psw.specs.declared.zones.Zone.TheVariants.{Clear, Yellow, Red}

-- The zone of a stack pointer, by what the stack limit register holds. The limit is 400 more than that: a whole number,
-- which isn't cut to 16 bits. At the limit and above it is clear. The 16 words below the limit are the yellow zone, and
-- all that is below these is the red zone.
unfoldable pub zone_of : ℕ → ℕ → Zone
zone_of register sp =
    let limit = register + 0o400 in
    if nat_le limit sp then Clear else (if nat_le limit (sp + 0o40) then Yellow else Red)
