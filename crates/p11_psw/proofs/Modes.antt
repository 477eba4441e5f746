-- The bits of joined modes.
use Rattle.std.proofs.Common.{◌≡◌, ◌<◌, bit_or, refl, arith}
use Rattle.p11_psw.specs.declared.mode.Mode.{Mode}
use Rattle.p11_psw.specs.declared.mode.Mode.TheVariants.{Kernel, Mode01, Mode10, User}
use Rattle.p11_psw.specs.Fields.{joined_mode, mode_number}

pub mode_number-joined_mode : (a b : Mode) → mode_number (joined_mode a b) ≡ bit_or (mode_number a) (mode_number b)
mode_number-joined_mode Kernel Kernel = refl
mode_number-joined_mode Kernel Mode01 = refl
mode_number-joined_mode Kernel Mode10 = refl
mode_number-joined_mode Kernel User = refl
mode_number-joined_mode Mode01 Kernel = refl
mode_number-joined_mode Mode01 Mode01 = refl
mode_number-joined_mode Mode01 Mode10 = refl
mode_number-joined_mode Mode01 User = refl
mode_number-joined_mode Mode10 Kernel = refl
mode_number-joined_mode Mode10 Mode01 = refl
mode_number-joined_mode Mode10 Mode10 = refl
mode_number-joined_mode Mode10 User = refl
mode_number-joined_mode User Kernel = refl
mode_number-joined_mode User Mode01 = refl
mode_number-joined_mode User Mode10 = refl
mode_number-joined_mode User User = refl

-- two bits joined with two bits are two bits
pub joined_below : (a b : Mode) → bit_or (mode_number a) (mode_number b) < 4
joined_below Kernel Kernel = omega arith
joined_below Kernel Mode01 = omega arith
joined_below Kernel Mode10 = omega arith
joined_below Kernel User = omega arith
joined_below Mode01 Kernel = omega arith
joined_below Mode01 Mode01 = omega arith
joined_below Mode01 Mode10 = omega arith
joined_below Mode01 User = omega arith
joined_below Mode10 Kernel = omega arith
joined_below Mode10 Mode01 = omega arith
joined_below Mode10 Mode10 = omega arith
joined_below Mode10 User = omega arith
joined_below User Kernel = omega arith
joined_below User Mode01 = omega arith
joined_below User Mode10 = omega arith
joined_below User User = omega arith
