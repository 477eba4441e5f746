-- Rotates and single shifts. C takes the bit that goes out, and V is N xor C.
use Rattle.std.specs.Prelude.{ℕ, ◌+◌, ◌*◌, ◌/◌, ◌%◌, ◌==◌, Bool, not, true, false, nat_lt, int_lt, pos, if◌then◌else◌}
use Rattle.p11_alu.specs.declared.size.Size.{Size}
use Rattle.p11_alu.specs.declared.size.Size.TheVariants.{Byte}
use Rattle.p11_alu.specs.declared.direction.Direction.{Direction}
use Rattle.p11_alu.specs.declared.direction.Direction.TheVariants.{Left, Right}
use Rattle.p11_alu.specs.declared.codes.Codes.{Codes}
use Rattle.p11_alu.specs.Numbers.{modulus, sign_weight, val, sval}
use Rattle.p11_words.specs.Bits.{flag}
use Rattle.p11_alu.specs.Results.{result_with, logic_codes}

-- the sign bit of n, where it weighs h
abbrev pub sign_of : ℕ → ℕ → Bool
sign_of h n = not (nat_lt n h)

-- one of the two, and not both
abbrev pub exclusive_or : Bool → Bool → Bool
exclusive_or true b = not b
exclusive_or false b = b

-- twice the number, cut to its size; 0 comes in at the right
abbrev pub left_once : ℕ → ℕ → ℕ
left_once h n = 2 * n % (2 * h)

-- half the number; the sign bit stays
abbrev pub right_once : ℕ → ℕ → ℕ
right_once h n = n / 2 + (if sign_of h n then h else 0)

-- the result of one shift, and its codes from the bit that went out
abbrev pub moved_result : Size → ℕ → Bool → ℕ × Codes
moved_result size r out = result_with size r (exclusive_or (int_lt (sval size r) (pos 0)) out) out

-- ROL: C comes in at the right, the sign bit goes out. ROR: C comes in as the sign bit, bit 0 goes
-- out.
unfoldable pub rotate_of : Size → Direction → ℕ → Bool → ℕ × Codes
rotate_of size Left n c =
    moved_result size ((2 * val size n + flag c 1) % modulus size)
    (sign_of (sign_weight size) (val size n))
rotate_of size Right n c =
    moved_result size (val size n / 2 + (if c then sign_weight size else 0)) (val size n % 2 == 1)

-- ASL: one shift to the left, the sign bit goes out. ASR: one to the right, bit 0 goes out.
unfoldable pub shift_of : Size → Direction → ℕ → ℕ × Codes
shift_of size Left n =
    moved_result size (left_once (sign_weight size) (val size n))
    (sign_of (sign_weight size) (val size n))
shift_of size Right n =
    moved_result size (right_once (sign_weight size) (val size n)) (val size n % 2 == 1)

-- SWAB: the bytes of a word exchanged; N and Z by the low byte of the result, V and C cleared.
unfoldable pub swab_of : ℕ → ℕ × Codes
swab_of n = let r = n % 256 * 256 + n / 256 in (r, logic_codes Byte r false)
