-- What a drive keeps stays in order: at the mount, when a sector is prepared, and when one is written.
use Rattle.std.proofs.Common.{◌≡◌, ◌≢◌, ℕ, ◌<◌, ◌≤◌, arith, true, false, true≢false, nat_eq, eqb, Bool, cond, ◌||◌, List, [], ◌∷◌, ◌++◌, length, replicate, set, Option, Some, None, is_some, ap, refl, sym, ◌∙◌, inl, inr}
use Rattle.std.specs.List.{All, IsDistinct, list_any}
use Rattle.std.specs.Int.{div_ceil}
use Rattle.std.specs.Cmp.{nat_eq_equiv}
use Rattle.std.specs.Map.{lookup, keys_of}
use Rattle.std.proofs.lemmas.Bool.{cases_Bool, cases_eq, cases_lt}
use Rattle.std.proofs.lemmas.Bool.Decides.{nat_tests}
use Rattle.std.proofs.lemmas.List.{get_or_past, length-replicate, length_push}
use Rattle.std.proofs.lemmas.List.Elements.{All-contains, All-from_get_or, All-get_or, All-nil, All-push, All-take}
use Rattle.std.proofs.lemmas.List.Folds.{list_any-append}
use Rattle.std.proofs.lemmas.Map.Keys.{IsDistinct-push}
use Rattle.std.proofs.lemmas.Map.Steps.{length-le_from_distinct_below, length-le_from_keys}
use Rattle.std.proofs.lemmas.Map.Views.{Contains-from_any, exact_unsigned_eq}
use Rattle.std.proofs.Math.Bool.{or-false}
use Rattle.std.proofs.lemmas.Map.Made.{is_some-lookup}
use Rattle.p11_overlay.specs.Drive.{Contents, changed_with, mounted, sectors_of, written}
use Rattle.p11_overlay.specs.Geometry.{all_sectors, image_bytes, sector_bytes}
use Rattle.p11_overlay.specs.Kept.Prepared.{IsWhole}
use Rattle.p11_overlay.specs.Kept.Sectors.{IsKept, base_of, base_sector, contents_of, over_base, sectors_over}
use Rattle.p11_overlay.proofs.Over.{length-sectors_over, put_other, sector_over}
use Rattle.p11_overlay.proofs.Sectors.{All-sectors_of}

-- each sector has its length
pub length-base_sector : (base : List (List ℕ)) (n : ℕ) → All (λ sector. length sector ≡ sector_bytes) base → length (base_sector base n) ≡ sector_bytes
unfolding base_sector
length-base_sector base n each = elim (cases_lt n (length base)) [
  | inl inside ↦ All-get_or (λ (sector : List ℕ). length sector ≡ sector_bytes) base n (replicate sector_bytes 0) inside each
  | inr outside ↦ ap length (get_or_past base n (replicate sector_bytes 0) outside) ∙ length-replicate {A = ℕ} sector_bytes 0
]

length-over_base : (base : List (List ℕ)) (n : ℕ) (over : Option (List ℕ)) → All (λ sector. length sector ≡ sector_bytes) base → ((bytes : List ℕ) → over ≡ Some bytes → length bytes ≡ sector_bytes) → length (over_base base n over) ≡ sector_bytes
length-over_base base n (Some bytes) each whole = whole bytes refl
length-over_base base n None each whole = length-base_sector base n each

-- the drive that is kept so is whole
pub whole_kept : (base : List (List ℕ)) (kept : ℕ → Option (List ℕ)) (count : ℕ) (protected : Bool) (changed : List ℕ) (room : ℕ) → IsKept base kept count changed room → IsWhole (contents_of base kept protected changed)
whole_kept base kept count protected changed room g = record {
  count = length-sectors_over base kept;
  bytes = All-from_get_or (λ (sector : List ℕ). length sector ≡ sector_bytes) (sectors_over base kept) [] (λ i h.
      ap length (sector_over base kept i (omega (arith, length-sectors_over base kept))) ∙ length-over_base base i (kept i) g.bytes (g.whole i));
  numbers = g.numbers;
  once = g.once;
}

-- at the mount nothing is kept, and nothing listed
pub kept_mounted : (base : List (List ℕ)) (kept : ℕ → Option (List ℕ)) (count room : ℕ) → All (λ sector. length sector ≡ sector_bytes) base → ((q : ℕ) → kept q ≡ None) → count ≡ 0 → IsKept base kept count [] room
unfolding IsDistinct
kept_mounted base kept count room each none empty = record {
  bytes = each;
  whole = λ n bytes is. absurd (cc (none n));
  unwritten = λ n bytes is not. absurd (cc (none n));
  written = λ n listed. absurd (cc listed);
  numbers = All-nil (λ n. n < all_sectors);
  once = tt;
  room_for_all = omega arith;
}

-- what a sector is that was put at n
put_at : (kept : ℕ → Option (List ℕ)) (new : Option (List ℕ)) (n q : ℕ) (bytes found : List ℕ) → new ≡ cond (eqb n q) (Some bytes) (kept q) → new ≡ Some found → n ≡ q → bytes ≡ found
put_at kept new n q bytes found u is same =
    let t : eqb n q ≡ true = grind (arith, nat_tests) in let f = rw t at (sym u ∙ is) in cc f

put_elsewhere : (kept : ℕ → Option (List ℕ)) (new : Option (List ℕ)) (n q : ℕ) (bytes : List ℕ) → new ≡ cond (eqb n q) (Some bytes) (kept q) → q ≢ n → new ≡ kept q
put_elsewhere kept new n q bytes u other = u ∙ put_other n q bytes (kept q) other

pub put_here : (kept : ℕ → Option (List ℕ)) (n q : ℕ) (bytes : List ℕ) → n ≡ q → is_some (cond (eqb n q) (Some bytes) (kept q)) ≡ true
put_here kept n q bytes same = let t : eqb n q ≡ true = grind (arith, nat_tests) in rw t refl

pub put_there : (kept : ℕ → Option (List ℕ)) (new : Option (List ℕ)) (n q : ℕ) (bytes : List ℕ) → new ≡ cond (eqb n q) (Some bytes) (kept q) → is_some (kept q) ≡ true → is_some new ≡ true
put_there kept new n q bytes u there = elim (cases_Bool (eqb n q)) [
  | inl same ↦ (let e : new ≡ Some bytes = rw same at u in ap is_some e)
  | inr other ↦ (let e : new ≡ kept q = rw other at u in ap is_some e ∙ there)
]

pub not_kept : (over : Option (List ℕ)) → is_some over ≡ false → over ≡ None
not_kept None none = refl
not_kept (Some bytes) none = absurd (true≢false none)

-- a sector is prepared: the base's own is put over it
pub kept_prepared : (base : List (List ℕ)) (kept kept' : ℕ → Option (List ℕ)) (n : ℕ) (bytes : List ℕ) (count count' : ℕ) (changed : List ℕ) (room room' : ℕ) → IsKept base kept count changed room → bytes ≡ base_sector base n → ((q : ℕ) → kept' q ≡ cond (eqb n q) (Some bytes) (kept q)) → count' ≤ room' → IsKept base kept' count' changed room'
kept_prepared base kept kept' n bytes count count' changed room room' g own u enough = record {
  bytes = g.bytes;
  whole = λ q found is. elim (cases_eq q n) [
    | inl s ↦ ap length (sym (put_at kept (kept' q) n q bytes found (u q) is (sym s)) ∙ own) ∙ length-base_sector base n g.bytes
    | inr ne ↦ g.whole q found (sym (put_elsewhere kept (kept' q) n q bytes (u q) ne) ∙ is)
  ];
  unwritten = λ q found is new. elim (cases_eq q n) [
    | inl s ↦ sym (put_at kept (kept' q) n q bytes found (u q) is (sym s)) ∙ own ∙ ap (base_sector base) (sym s)
    | inr ne ↦ g.unwritten q found (sym (put_elsewhere kept (kept' q) n q bytes (u q) ne) ∙ is) new
  ];
  written = λ q listed. put_there kept (kept' q) n q bytes (u q) (g.written q listed);
  numbers = g.numbers;
  once = g.once;
  room_for_all = enough;
}

-- The list of changed sectors after a write of sector n has n, and of the others those that it had.
listed_first : (changed : List ℕ) (n : ℕ) → list_any (nat_eq n) changed ≡ false → changed_with changed n ≡ changed ++ n ∷ []
listed_first changed n new = rw new refl

listed_again : (changed : List ℕ) (n : ℕ) → list_any (nat_eq n) changed ≡ true → changed_with changed n ≡ changed
listed_again changed n there = rw there refl

pushed : (changed : List ℕ) (n q : ℕ) → list_any (nat_eq q) (changed ++ n ∷ []) ≡ (list_any (nat_eq q) changed || (eqb q n || false))
pushed changed n q = list_any-append (nat_eq q) changed (n ∷ [])

listed_now : (changed : List ℕ) (n : ℕ) → list_any (nat_eq n) (changed_with changed n) ≡ true
listed_now changed n = elim (cases_Bool (list_any (nat_eq n) changed)) [
  | inl there ↦ ap (list_any (nat_eq n)) (listed_again changed n there) ∙ there
  | inr new ↦ (let t : eqb n n ≡ true = grind (arith, nat_tests) in
      ap (list_any (nat_eq n)) (listed_first changed n new) ∙ pushed changed n n ∙ rw (new, t) refl)
]

listed_other : (changed : List ℕ) (n q : ℕ) → q ≢ n → list_any (nat_eq q) (changed_with changed n) ≡ list_any (nat_eq q) changed
listed_other changed n q other = elim (cases_Bool (list_any (nat_eq n) changed)) [
  | inl there ↦ ap (list_any (nat_eq q)) (listed_again changed n there)
  | inr new ↦ (let t : eqb q n ≡ false = grind (arith, nat_tests) in
      ap (list_any (nat_eq q)) (listed_first changed n new) ∙ pushed changed n q ∙ rw t (or-false (list_any (nat_eq q) changed)))
]

numbers_with : (changed : List ℕ) (n : ℕ) → All (λ m. m < all_sectors) changed → n < all_sectors → All (λ m. m < all_sectors) (changed_with changed n)
numbers_with changed n each within = elim (cases_Bool (list_any (nat_eq n) changed)) [
  | inl there ↦ rw (listed_again changed n there) each
  | inr new ↦ rw (listed_first changed n new) (All-push (λ m. m < all_sectors) changed n each within)
]

once_with : (changed : List ℕ) (n : ℕ) → IsDistinct nat_eq changed → IsDistinct nat_eq (changed_with changed n)
once_with changed n once = elim (cases_Bool (list_any (nat_eq n) changed)) [
  | inl there ↦ rw (listed_again changed n there) once
  | inr new ↦ rw (listed_first changed n new) (IsDistinct-push nat_eq_equiv changed n once new)
]

-- a sector that is kept is written
pub kept_written : (base : List (List ℕ)) (kept kept' : ℕ → Option (List ℕ)) (n : ℕ) (bytes : List ℕ) (count count' : ℕ) (changed : List ℕ) (room room' : ℕ) → IsKept base kept count changed room → n < all_sectors → length bytes ≡ sector_bytes → ((q : ℕ) → kept' q ≡ cond (eqb n q) (Some bytes) (kept q)) → count' ≤ room' → IsKept base kept' count' (changed_with changed n) room'
kept_written base kept kept' n bytes count count' changed room room' g within len u enough = record {
  bytes = g.bytes;
  whole = λ q found is. elim (cases_eq q n) [
    | inl s ↦ ap length (sym (put_at kept (kept' q) n q bytes found (u q) is (sym s))) ∙ len
    | inr ne ↦ g.whole q found (sym (put_elsewhere kept (kept' q) n q bytes (u q) ne) ∙ is)
  ];
  unwritten = λ q found is new. elim (cases_eq q n) [
    | inl s ↦ absurd (true≢false (sym (listed_now changed n) ∙ ap (λ k. list_any (nat_eq k) (changed_with changed n)) (sym s) ∙ new))
    | inr ne ↦ g.unwritten q found (sym (put_elsewhere kept (kept' q) n q bytes (u q) ne) ∙ is) (sym (listed_other changed n q ne) ∙ new)
  ];
  written = λ q listed. elim (cases_eq q n) [
    | inl s ↦ ap is_some (u q) ∙ put_here kept n q bytes (sym s)
    | inr ne ↦ ap is_some (put_elsewhere kept (kept' q) n q bytes (u q) ne) ∙ g.written q (sym (listed_other changed n q ne) ∙ listed)
  ];
  numbers = numbers_with changed n g.numbers within;
  once = once_with changed n g.once;
  room_for_all = enough;
}

-- the list is no longer than there are sectors
pub length_changed : (c : Contents) → IsWhole c → length c.changed ≤ all_sectors
length_changed c whole =
    length-le_from_distinct_below c.changed all_sectors whole.once
    (λ q found. All-contains (λ n. n < all_sectors) c.changed q whole.numbers (Contains-from_any exact_unsigned_eq q c.changed found))

kept_or_listed : (base : List (List ℕ)) (entries : List (ℕ × List ℕ)) (n : ℕ) (changed : List ℕ) (room q : ℕ) → IsKept base (λ q. lookup (nat_eq q) entries) (length entries) changed room → list_any (nat_eq n) (keys_of entries) ≡ true → list_any (nat_eq q) (changed ++ n ∷ []) ≡ true → is_some (lookup (nat_eq q) entries) ≡ true
kept_or_listed base entries n changed room q g kept found = elim (cases_eq q n) [
  | inl s ↦ is_some-lookup (nat_eq q) entries ∙ ap (λ k. list_any (nat_eq k) (keys_of entries)) s ∙ kept
  | inr ne ↦ (let t : eqb q n ≡ false = grind (arith, nat_tests) in
      g.written q (sym (rw t at (pushed changed n q) ∙ or-false (list_any (nat_eq q) changed)) ∙ found))
]

-- A sector that is kept and not listed leaves room for one more number.
pub room_for_one : (base : List (List ℕ)) (entries : List (ℕ × List ℕ)) (n : ℕ) (changed : List ℕ) (room : ℕ) → IsKept base (λ q. lookup (nat_eq q) entries) (length entries) changed room → list_any (nat_eq n) (keys_of entries) ≡ true → list_any (nat_eq n) changed ≡ false → length changed < room
room_for_one base entries n changed room g kept new =
    let more : length (changed ++ n ∷ []) ≤ length entries =
    length-le_from_keys nat_eq_equiv (changed ++ n ∷ []) entries (IsDistinct-push nat_eq_equiv changed n g.once new)
    (λ q found. kept_or_listed base entries n changed room q g kept found) in
    omega (arith, g.room_for_all, length_push changed n)

pub All-base_of : (image : List ℕ) → length image ≤ image_bytes → All (λ sector. length sector ≡ sector_bytes) (base_of image)
unfolding base_of
All-base_of image fits =
    All-take (λ (sector : List ℕ). length sector ≡ sector_bytes) (div_ceil (length image) sector_bytes) (sectors_of image) (All-sectors_of image fits)

-- the contents, once the sectors and the list are known
pub contents_same : (base : List (List ℕ)) (kept kept' : ℕ → Option (List ℕ)) (protected : Bool) (changed changed' : List ℕ) → sectors_over base kept' ≡ sectors_over base kept → changed' ≡ changed → contents_of base kept' protected changed' ≡ contents_of base kept protected changed
contents_same base kept kept' protected changed changed' sectors list = rw (sectors, list) refl

pub contents_written : (base : List (List ℕ)) (kept kept' : ℕ → Option (List ℕ)) (protected : Bool) (changed changed' : List ℕ) (n : ℕ) (bytes : List ℕ) → sectors_over base kept' ≡ set (sectors_over base kept) n bytes → changed' ≡ changed_with changed n → contents_of base kept' protected changed' ≡ written (contents_of base kept protected changed) n bytes
contents_written base kept kept' protected changed changed' n bytes sectors list = rw (sectors, list) refl

pub contents_mounted : (base : List (List ℕ)) (kept : ℕ → Option (List ℕ)) (protected : Bool) (changed image : List ℕ) → sectors_over base kept ≡ sectors_of image → changed ≡ [] → contents_of base kept protected changed ≡ mounted image protected
contents_mounted base kept protected changed image sectors list = rw (sectors, list) refl
