-- What the rows of a table have that no word fits twice: a test over pairs of rows, and what it gives at each word.
use Rattle.std.proofs.Common.{◌≡◌, ℕ, ◌+◌, ◌≤◌, List, [], ◌∷◌, Bool, true, false, not, ◌&&◌, cond, eqb, bit_and, All, count_by, refl, arith, ap, sym, ◌∙◌}
use Rattle.std.proofs.lemmas.Bool.{eqb-true, eq-eqb}
use Rattle.std.proofs.lemmas.List.Elements.{All-nil, All-cons}
use Rattle.std.proofs.lemmas.List.Sums.{sum_by-cons}
use Rattle.std.proofs.lemmas.Nat.{and_comm, and_assoc}
use Rattle.std.specs.List.{list_all}
use Rattle.p11_decode.specs.declared.op.Op.TheVariants.{Reserved}
use Rattle.p11_decode.specs.Table.{Row, fits, first_fit, table}

-- the rows want different bits somewhere that both look at
abbrev apart : Row → Row → Bool
apart r q = not (eqb (bit_and r.value q.mask) (bit_and q.value r.mask))

-- each row is apart from each below it
abbrev all_apart : List Row → Bool
all_apart [] = true
all_apart (r ∷ rows) = list_all (apart r) rows && all_apart rows

-- two rows that fit one word want the same bits wherever both look
same_bits : (w : ℕ) (r q : Row) → fits w r ≡ true → fits w q ≡ true → bit_and r.value q.mask ≡ bit_and q.value r.mask
same_bits w r q fits_r fits_q =
    let is_r : bit_and w r.mask ≡ r.value = eqb-true _ _ fits_r in
    let is_q : bit_and w q.mask ≡ q.value = eqb-true _ _ fits_q in
    ap (λ v. bit_and v q.mask) (sym is_r)
    ∙ and_assoc q.mask w r.mask
    ∙ ap (bit_and w) (and_comm r.mask q.mask)
    ∙ sym (and_assoc r.mask w q.mask)
    ∙ ap (λ v. bit_and v r.mask) is_q

pub both_true : (a b : Bool) → a && b ≡ true → (a ≡ true) × (b ≡ true)
both_true true b e = (refl, e)
both_true false b e = cc

-- of two rows apart, the second does not fit a word that the first fits
other_fails : (w : ℕ) (r q : Row) → apart r q ≡ true → fits w r ≡ true → fits w q ≡ false
other_fails w r q is_apart fits_r =
    elim (fits w q) as (λ t. fits w q ≡ t → t ≡ false) [
      | true ↦ λ fits_q. (let same = eq-eqb _ _ (same_bits w r q fits_r fits_q) in let no = ap not same in cc)
      | false ↦ λ _. refl
    ] refl

none_below : (w : ℕ) (r : Row) (rows : List Row) → list_all (apart r) rows ≡ true → fits w r ≡ true → count_by (fits w) rows ≡ 0
none_below w r [] is_apart fits_r = refl
none_below w r (q ∷ rows) is_apart fits_r =
    let both = both_true (apart r q) (list_all (apart r) rows) is_apart in
    rw (other_fails w r q both.0 fits_r, none_below w r rows both.1 fits_r) refl

count_by-cons : (w : ℕ) (r : Row) (rows : List Row) → count_by (fits w) (r ∷ rows) ≡ cond (fits w r) 1 0 + count_by (fits w) rows
count_by-cons w r rows = sum_by-cons (λ q. cond (fits w q) 1 0) r rows

at_most_one : (w : ℕ) (rows : List Row) → all_apart rows ≡ true → count_by (fits w) rows ≤ 1
at_most_one w [] is_apart = omega arith
at_most_one w (r ∷ rows) is_apart =
    let both = both_true (list_all (apart r) rows) (all_apart rows) is_apart in
    rw (count_by-cons w r rows) (elim (fits w r) as (λ t. fits w r ≡ t → cond t 1 0 + count_by (fits w) rows ≤ 1) [
      | true ↦ λ fits_r. rw (none_below w r rows both.0 fits_r) (omega arith)
      | false ↦ λ _. (let below = at_most_one w rows both.1 in omega arith)
    ] refl)

-- a row that a word fits has no row above it that the word fits
none_above : (w : ℕ) (r : Row) (rows : List Row) → list_all (apart r) rows ≡ true → All (λ q. fits w q ≡ true → fits w r ≡ false) rows
none_above w r [] is_apart = All-nil _
none_above w r (q ∷ rows) is_apart =
    let both = both_true (apart r q) (list_all (apart r) rows) is_apart in
    All-cons (λ q. fits w q ≡ true → fits w r ≡ false) q rows (λ fits_q. elim (fits w r) as (λ t. fits w r ≡ t → t ≡ false) [
      | true ↦ λ fits_r. (let no = other_fails w r q both.0 fits_r in cc)
      | false ↦ λ _. refl
    ] refl) (none_above w r rows both.1)

decided : (w : ℕ) (rows : List Row) → all_apart rows ≡ true → All (λ q. fits w q ≡ true → first_fit rows w ≡ q.op w) rows
decided w [] is_apart = All-nil _
decided w (r ∷ rows) is_apart =
    let both = both_true (list_all (apart r) rows) (all_apart rows) is_apart in
    let above = none_above w r rows both.0 in
    let below = decided w rows both.1 in
    All-cons (λ q. fits w q ≡ true → first_fit (r ∷ rows) w ≡ q.op w) r rows (λ fits_r. rw fits_r refl) (λ k d is_row fits_q. (let not_r = above k d is_row fits_q in rw not_r (below k d is_row fits_q)))

undecided : (w : ℕ) (rows : List Row) → count_by (fits w) rows ≡ 0 → first_fit rows w ≡ Reserved
undecided w [] none = refl
undecided w (r ∷ rows) none =
    elim (fits w r) as (λ t. fits w r ≡ t → cond t 1 0 + count_by (fits w) rows ≡ 0 → cond t (r.op w) (first_fit rows w) ≡ Reserved) [
      | true ↦ λ _ some. absurd (omega (arith, some))
      | false ↦ λ _ rest. undecided w rows (omega (arith, rest))
    ] refl (sym (count_by-cons w r rows) ∙ none)

pub at_most_one_row : (w : ℕ) → count_by (fits w) table ≤ 1
at_most_one_row w = at_most_one w table refl

pub decided_by_row : (w : ℕ) → All (λ r. fits w r ≡ true → first_fit table w ≡ r.op w) table
decided_by_row w = decided w table refl

pub reserved_by_none : (w : ℕ) → count_by (fits w) table ≡ 0 → first_fit table w ≡ Reserved
reserved_by_none w = undecided w table
