-- The error register, RKER: bit 0 is a write check error. Each other bit is a hard error, which ends its function.
use Rattle.std.specs.Prelude.{ℕ}
use Rattle.p11_rk11.specs.declared.errors.Failure.{Failure}
use Rattle.p11_rk11.specs.declared.errors.Failure.TheVariants.{NoSector, NoCylinder, NoDisk, NoMemory, Programming, WriteLockout, Overrun, DriveError}

-- the bit of a hard error: 5 no sector, 6 no cylinder, 7 no disk, 10 no memory, 11 programming, 13 write lockout,
-- 14 overrun, 15 drive error
unfoldable pub error_bit : Failure → ℕ
error_bit NoSector = 0o40
error_bit NoCylinder = 0o100
error_bit NoDisk = 0o200
error_bit NoMemory = 0o2000
error_bit Programming = 0o4000
error_bit WriteLockout = 0o20000
error_bit Overrun = 0o40000
error_bit DriveError = 0o100000
