-- Which programs memory management keeps off the I/O page.
use Rattle.std.specs.Prelude.{ℕ, ◌<◌, ◌^◌, IfOk}
use Rattle.p11_psw.specs.declared.mode.Mode.TheVariants.{User}
use Rattle.p11_kt11.specs.declared.reference.Kind.{Kind}
use Rattle.p11_kt11.specs.Management.{Management}
use Rattle.p11_kt11.specs.Translation.{place}

-- no virtual address of user mode goes to the I/O page
abbrev pub UserStaysOffIoPage : Management → Type 0
UserStaysOffIoPage s =
    (address : ℕ) (kind : Kind) → address < 2 ^ 16 → IfOk (place User address kind s) (λ p. p < 0o760000)
