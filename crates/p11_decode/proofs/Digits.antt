-- A word is told by the digit in its bits 14 to 12 first, at which every row of the table looks.
use Rattle.std.proofs.Common.{◌≡◌, ◌≢◌, ℕ, ◌*◌, ◌%◌, ◌/◌, ◌+◌, ◌^◌, List, [], ◌∷◌, Bool, true, false, cond, eqb, ◌==◌, if◌then◌else◌, ◌-◌, bit_and, filter, refl, arith, ap, sym, ◌∙◌}
use Rattle.std.proofs.lemmas.Bool.{eqb-true, eq-eqb}
use Rattle.std.proofs.lemmas.Nat.{and_assoc, and_block, and_mask}
use Rattle.std.specs.Int.Bits.{and_zero_r}
use Rattle.std.specs.List.{list_all}
use Rattle.std.proofs.lemmas.Bool.Decides.{nat_tests}
use Rattle.p11_decode.specs.declared.op.Op.{Op}
use Rattle.p11_decode.specs.declared.op.Op.TheVariants.{Modify, Reserved}
use Rattle.p11_decode.specs.declared.groups.ModifyOp.{ModifyOp}
use Rattle.p11_decode.specs.declared.groups.ModifyOp.TheVariants.{Add, Sub}
use Rattle.p11_decode.specs.declared.operand.Size.TheVariants.{Word}
use Rattle.p11_decode.specs.Table.{Row, destination, fits, first_fit, op_of, source, table}
use Rattle.p11_decode.specs.Calls.Rows.{with_digit}
use Rattle.p11_decode.proofs.Rows.{both_true}

-- a word that a row fits has the row's bits wherever the row looks
bits_of_row : (w m : ℕ) (r : Row) → eqb (bit_and r.mask m) m ≡ true → fits w r ≡ true → bit_and w m ≡ bit_and r.value m
bits_of_row w m r looks fits_r =
    ap (bit_and w) (sym (eqb-true _ _ looks)) ∙ sym (and_assoc m w r.mask) ∙ ap (λ v. bit_and v m) (eqb-true _ _ fits_r)

-- of rows that all look at some bits, those alone matter that have the word's bits there
narrowed : (w m bits : ℕ) (rows : List Row) → list_all (λ r. eqb (bit_and r.mask m) m) rows ≡ true → bit_and w m ≡ bits → first_fit rows w ≡ first_fit (filter (λ r. eqb (bit_and r.value m) bits) rows) w
narrowed w m bits [] look is = refl
narrowed w m bits (r ∷ rows) look is =
    let both = both_true (eqb (bit_and r.mask m) m) (list_all (λ r. eqb (bit_and r.mask m) m) rows) look in
    let below = narrowed w m bits rows both.1 is in
    elim (eqb (bit_and r.value m) bits) as (λ t. eqb (bit_and r.value m) bits ≡ t → cond (fits w r) (r.op w) (first_fit rows w) ≡ first_fit (cond t (r ∷ filter (λ r. eqb (bit_and r.value m) bits) rows) (filter (λ r. eqb (bit_and r.value m) bits) rows)) w) [
      | true ↦ λ _. rw below refl
      | false ↦ λ differs. elim (fits w r) as (λ t. fits w r ≡ t → cond t (r.op w) (first_fit rows w) ≡ first_fit (filter (λ r. eqb (bit_and r.value m) bits) rows) w) [
        | true ↦ λ fits_r. (let same = eq-eqb _ _ (sym (bits_of_row w m r both.0 fits_r) ∙ is) in cc)
        | false ↦ λ _. below
      ] refl
    ] refl

pub by_digit : (w digit : ℕ) → bit_and w 0o070000 ≡ digit → op_of w ≡ first_fit (with_digit digit) w
unfolding op_of
by_digit w digit is = narrowed w 0o070000 digit table refl is

-- so many bits from bit 12 on
bits_from_12 : (w count : ℕ) → bit_and w ((2 ^ count - 1) * 2 ^ 12 + 0) ≡ w / 2 ^ 12 % 2 ^ count * 2 ^ 12
bits_from_12 w count =
    let whole : w ≡ w / 2 ^ 12 * 2 ^ 12 + w % 2 ^ 12 = omega arith in
    ap (λ n. bit_and n ((2 ^ count - 1) * 2 ^ 12 + 0)) whole
    ∙ and_block 12 (w / 2 ^ 12) (2 ^ count - 1) (w % 2 ^ 12) 0 (omega arith) (omega arith)
    ∙ omega (arith, and_mask (w / 2 ^ 12) count, and_zero_r (w % 2 ^ 12))

-- the digit is 0 where it is none of the others
pub no_digit : (w : ℕ) → bit_and w 0o070000 ≢ 0o010000 → bit_and w 0o070000 ≢ 0o020000 → bit_and w 0o070000 ≢ 0o030000 → bit_and w 0o070000 ≢ 0o040000 → bit_and w 0o070000 ≢ 0o050000 → bit_and w 0o070000 ≢ 0o060000 → bit_and w 0o070000 ≢ 0o070000 → bit_and w 0o070000 ≡ 0
no_digit w not_1 not_2 not_3 not_4 not_5 not_6 not_7 =
    let is : bit_and w 0o070000 ≡ w / 4096 % 8 * 4096 = bits_from_12 w 3 in
    omega arith

-- with the digit 6, bit 15 parts ADD and SUB
with_bit_15 : (w : ℕ) → bit_and w 0o070000 ≡ 0o060000 → bit_and w 0o170000 ≡ cond (eqb (w / 0o100000 % 2) 0) 0o060000 0o160000
with_bit_15 w is =
    let three : bit_and w 0o070000 ≡ w / 4096 % 8 * 4096 = bits_from_12 w 3 in
    let four : bit_and w 0o170000 ≡ w / 4096 % 16 * 4096 = bits_from_12 w 4 in
    grind (arith, nat_tests)

one_of_two : (n : ℕ) (is_first : Bool) (op : ModifyOp → Op) (none : Op) → n ≡ cond is_first 0o060000 0o160000 → cond (eqb n 0o060000) (op Add) (cond (eqb n 0o160000) (op Sub) none) ≡ op (cond is_first Add Sub)
one_of_two n true op none is = rw is refl
one_of_two n false op none is = rw is refl

pub add_or_sub : (w : ℕ) → bit_and w 0o070000 ≡ 0o060000 → op_of w ≡ Modify (if w / 0o100000 % 2 == 0 then Add else Sub) Word (source w) (destination w)
add_or_sub w is =
    by_digit w 0o060000 is
    ∙ one_of_two (bit_and w 0o170000) (w / 0o100000 % 2 == 0) (λ op. Modify op Word (source w) (destination w)) Reserved (with_bit_15 w is)
