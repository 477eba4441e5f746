-- The number of a counted shift, without a loop: what the functions behind ASH and ASHC compute.
use Rattle.std.specs.Prelude.{ℕ, zero, suc, ◌^◌, ◌==◌, Bool, ◌&&◌, false, ℤ, pos, negsuc, neg_ℤ, ◌*ℤ◌, int_le, int_lt}
use Rattle.std.specs.Int.{int_shr}
use Rattle.p11_alu.specs.Numbers.{wrapped}

-- the lowest bit of a number
abbrev pub is_odd : ℤ → Bool
is_odd z = wrapped 2 z == 1

-- the number is the signed value of some pair: it is in -2^31 to 2^31 - 1
abbrev pub fits_pair : ℤ → Bool
fits_pair z = int_le (neg_ℤ (pos 2147483648)) z && int_lt z (pos 2147483648)

-- the whole number after a shift by a count, before it is cut to its bits
abbrev pub number_at_once : ℤ → ℤ → ℤ
number_at_once (pos k) z = z *ℤ pos (2 ^ k)
number_at_once (negsuc k) z = int_shr z (suc k)

-- the bit that went out last of a number of some bits, at a count
abbrev pub out_at_once : ℕ → ℤ → ℤ → Bool
out_at_once bits (pos zero) z = false
out_at_once bits (pos (suc k)) z = is_odd (int_shr (z *ℤ pos (2 ^ suc k)) bits)
out_at_once bits (negsuc k) z = is_odd (int_shr z k)
