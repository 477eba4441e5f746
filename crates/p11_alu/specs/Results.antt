-- Results of sums and differences, and condition codes by whole numbers.
use Rattle.std.specs.Prelude.{ℕ, ◌==◌, Bool, not, false, ℤ, pos, ◌+ℤ◌, ◌-ℤ◌, int_lt}
use Rattle.std.specs.Ordering.{int_eq}
use Rattle.p11_alu.specs.declared.size.Size.{Size}
use Rattle.p11_alu.specs.declared.codes.Codes.{Codes}
use Rattle.p11_alu.specs.Numbers.{modulus, val, sval, wrapped}

-- A result whose N and Z go by its value, with V and C by a rule of its instruction.
abbrev pub result_with : Size → ℕ → Bool → Bool → ℕ × Codes
result_with size r v c = (r, record { n = int_lt (sval size r) (pos 0); z = r == 0; v = v; c = c })

-- What is stored of a true result, and its codes: N if its signed value is below 0, Z if it is 0, V if the true signed
-- result isn't its signed value, C if the true unsigned result isn't its unsigned value.
abbrev pub result_of : Size → ℤ → ℤ → ℕ × Codes
result_of size true_signed true_unsigned =
    let r = wrapped (modulus size) true_unsigned in
    result_with size r (not (int_eq true_signed (sval size r))) (not (int_eq true_unsigned (pos r)))

-- A SUM: a plus b. ADD in words, INC adds 1, and ADC adds C.
unfoldable pub sum_of : Size → ℕ → ℕ → ℕ × Codes
sum_of size a b = result_of size (sval size a +ℤ sval size b) (pos (val size a) +ℤ pos (val size b))

-- A DIFFERENCE: a minus b. SUB in words, CMP takes the codes alone, DEC takes 1, SBC takes C, and NEG takes from 0.
unfoldable pub difference_of : Size → ℕ → ℕ → ℕ × Codes
difference_of size a b = result_of size (sval size a -ℤ sval size b) (pos (val size a) -ℤ pos (val size b))

-- A result with C as it was before the instruction (INC, DEC).
abbrev pub with_carry : Bool → ℕ × Codes → ℕ × Codes
with_carry c (r, codes) = (r, record codes { c = c })

-- The codes of a result that clears V, with C as handed in (MOV, BIT, BIC, BIS, XOR, COM, CLR, TST, SXT, MFPI, MTPI).
unfoldable pub logic_codes : Size → ℕ → Bool → Codes
logic_codes size r c = record { n = int_lt (sval size r) (pos 0); z = val size r == 0; v = false; c = c }
