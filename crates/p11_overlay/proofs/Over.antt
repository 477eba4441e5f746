-- A base of sectors, and sectors kept over it.
use Rattle.std.proofs.Common.{◌≡◌, ◌≢◌, ℕ, ◌<◌, ◌≤◌, arith, true, false, eqb, cond, List, [], length, replicate, get_or, set, Option, Some, None, ap, refl, sym, ◌∙◌, get_or-set_same, get_or-set_other, inl, inr}
use Rattle.std.proofs.Math.ListN.{length-set}
use Rattle.std.proofs.lemmas.Bool.{cases_eq, cases_lt}
use Rattle.std.proofs.lemmas.Bool.Decides.{nat_tests}
use Rattle.std.proofs.lemmas.List.{ext_get_or, get_or_past, get_or-take, length-take}
use Rattle.std.proofs.lemmas.List.FromFn.{get_or-map-range_with_len, length-map-range_with_len}
use Rattle.std.specs.Int.{div_ceil}
use Rattle.p11_overlay.specs.Drive.{filled, sector_within, sectors_of}
use Rattle.p11_overlay.specs.Geometry.{all_sectors, image_bytes, sector_bytes}
use Rattle.p11_overlay.specs.Kept.Sectors.{base_of, base_sector, over_base, sectors_over}
use Rattle.p11_overlay.proofs.Sectors.{sector_past}

pub sector_over : (base : List (List ℕ)) (kept : ℕ → Option (List ℕ)) (n : ℕ) → n < all_sectors → get_or (sectors_over base kept) n [] ≡ over_base base n (kept n)
unfolding sectors_over
sector_over base kept n h = get_or-map-range_with_len (λ q. over_base base q (kept q)) 0 all_sectors n n [] h (omega arith)

pub length-sectors_over : (base : List (List ℕ)) (kept : ℕ → Option (List ℕ)) → length (sectors_over base kept) ≡ all_sectors
unfolding sectors_over
length-sectors_over base kept = length-map-range_with_len (λ q. over_base base q (kept q)) 0 all_sectors

-- two drives with the same sectors, one by one
pub same_sectors : (base : List (List ℕ)) (kept kept' : ℕ → Option (List ℕ)) → ((q : ℕ) → over_base base q (kept' q) ≡ over_base base q (kept q)) → sectors_over base kept' ≡ sectors_over base kept
same_sectors base kept kept' same =
    ext_get_or [] (sectors_over base kept') (sectors_over base kept) (length-sectors_over base kept' ∙ sym (length-sectors_over base kept))
    (λ i h. let k : i < all_sectors = omega (arith, length-sectors_over base kept') in sector_over base kept' i k ∙ same i ∙ sym (sector_over base kept i k))

put_same : (base : List (List ℕ)) (n q : ℕ) (bytes : List ℕ) (old : Option (List ℕ)) → bytes ≡ over_base base n old → n ≡ q → over_base base q (cond (eqb n q) (Some bytes) old) ≡ over_base base q old
put_same base n q bytes old e s = let t : eqb n q ≡ true = grind (arith, nat_tests) in rw t (e ∙ ap (λ k. over_base base k old) s)

pub put_other : (n q : ℕ) (bytes : List ℕ) (old : Option (List ℕ)) → q ≢ n → cond (eqb n q) (Some bytes) old ≡ old
put_other n q bytes old ne = let t : eqb n q ≡ false = grind (arith, nat_tests) in rw t refl

-- the base's own sector is put over it
pub prepared_sector : (base : List (List ℕ)) (kept kept' : ℕ → Option (List ℕ)) (n : ℕ) (bytes : List ℕ) → kept n ≡ None → bytes ≡ base_sector base n → ((q : ℕ) → kept' q ≡ cond (eqb n q) (Some bytes) (kept q)) → sectors_over base kept' ≡ sectors_over base kept
prepared_sector base kept kept' n bytes none own u =
    let e : bytes ≡ over_base base n (kept n) = own ∙ ap (over_base base n) (sym none) in
    same_sectors base kept kept' (λ q. ap (over_base base q) (u q) ∙ (elim (cases_eq q n) [
      | inl s ↦ put_same base n q bytes (kept q) (e ∙ ap (λ k. over_base base n (kept k)) (sym s)) (sym s)
      | inr ne ↦ ap (over_base base q) (put_other n q bytes (kept q) ne)
    ]))

here : (base : List (List ℕ)) (kept : ℕ → Option (List ℕ)) (n i : ℕ) (bytes : List ℕ) → n < all_sectors → i ≡ n → over_base base i (cond (eqb n i) (Some bytes) (kept i)) ≡ get_or (set (sectors_over base kept) n bytes) i []
here base kept n i bytes within e =
    let t : eqb n i ≡ true = grind (arith, nat_tests) in
    let lt : n < length (sectors_over base kept) = omega (arith, length-sectors_over base kept) in
    rw t (sym (ap (λ k. get_or (set (sectors_over base kept) n bytes) k []) e ∙ get_or-set_same (sectors_over base kept) n bytes [] lt))

-- a sector is written
pub written_sector : (base : List (List ℕ)) (kept kept' : ℕ → Option (List ℕ)) (n : ℕ) (bytes : List ℕ) → n < all_sectors → ((q : ℕ) → kept' q ≡ cond (eqb n q) (Some bytes) (kept q)) → sectors_over base kept' ≡ set (sectors_over base kept) n bytes
written_sector base kept kept' n bytes within u =
    ext_get_or [] (sectors_over base kept') (set (sectors_over base kept) n bytes) (length-sectors_over base kept' ∙ sym (length-set (sectors_over base kept) n bytes ∙ length-sectors_over base kept))
    (λ i h.
    let k : i < all_sectors = omega (arith, length-sectors_over base kept') in
    sector_over base kept' i k ∙ ap (over_base base i) (u i) ∙ (elim (cases_eq i n) [
      | inl e ↦ here base kept n i bytes within e
      | inr ne ↦ ap (over_base base i) (put_other n i bytes (kept i) ne) ∙ sym (sector_over base kept i k) ∙ sym (get_or-set_other (sectors_over base kept) n i bytes [] ne)
    ]))

-- Sector n of a mounted image: one of the image's bytes, or zeros behind them.
base_inside : (image : List ℕ) (n : ℕ) → n < div_ceil (length image) sector_bytes → n < all_sectors → length (base_of image) ≡ div_ceil (length image) sector_bytes → base_sector (base_of image) n ≡ sector_within (filled image) n
unfolding base_of base_sector sectors_of
base_inside image n inside within len =
    get_or-take (div_ceil (length image) sector_bytes) (sectors_of image) n (replicate sector_bytes 0) inside
    ∙ get_or-map-range_with_len (sector_within (filled image)) 0 all_sectors n n (replicate sector_bytes 0) within (omega arith)

base_outside : (image : List ℕ) (n : ℕ) → div_ceil (length image) sector_bytes ≤ n → n < all_sectors → length image ≤ image_bytes → length (base_of image) ≡ div_ceil (length image) sector_bytes → base_sector (base_of image) n ≡ sector_within (filled image) n
unfolding base_sector
base_outside image n outside within fits len =
    get_or_past (base_of image) n (replicate sector_bytes 0) (omega (arith, len)) ∙ sym (sector_past image n (omega arith) within fits)

pub length-base_of : (image : List ℕ) → length image ≤ image_bytes → length (base_of image) ≡ div_ceil (length image) sector_bytes
unfolding base_of sectors_of
length-base_of image fits =
    omega (arith, length-take (div_ceil (length image) sector_bytes) (sectors_of image), length-map-range_with_len (sector_within (filled image)) 0 all_sectors)

pub base_mounted : (image : List ℕ) (n : ℕ) → n < all_sectors → length image ≤ image_bytes → base_sector (base_of image) n ≡ sector_within (filled image) n
base_mounted image n within fits =
    let len : length (base_of image) ≡ div_ceil (length image) sector_bytes = length-base_of image fits in
    elim (cases_lt n (div_ceil (length image) sector_bytes)) [
      | inl inside ↦ base_inside image n inside within len
      | inr outside ↦ base_outside image n outside within fits len
    ]

-- a drive on which nothing is kept yet
pub nothing_over : (image : List ℕ) (kept : ℕ → Option (List ℕ)) → ((q : ℕ) → kept q ≡ None) → length image ≤ image_bytes → sectors_over (base_of image) kept ≡ sectors_of image
unfolding sectors_of
nothing_over image kept none fits =
    ext_get_or [] (sectors_over (base_of image) kept) (sectors_of image) (length-sectors_over (base_of image) kept ∙ sym (length-map-range_with_len (sector_within (filled image)) 0 all_sectors))
    (λ i h.
    let k : i < all_sectors = omega (arith, length-sectors_over (base_of image) kept) in
    sector_over (base_of image) kept i k ∙ ap (over_base (base_of image) i) (none i) ∙ base_mounted image i k fits
    ∙ sym (get_or-map-range_with_len (sector_within (filled image)) 0 all_sectors i i [] k (omega arith)))
