-- A place and the number of its sector, and a sector's words and their bytes.
use Rattle.std.proofs.Common.{◌≡◌, ℕ, zero, suc, ◌+◌, ◌*◌, ◌/◌, ◌%◌, ◌<◌, true, List, [], ◌∷◌, ◌++◌, length, map, drop, get_or, refl, sym, ap, ◌∙◌, arith, inl, inr}
use Rattle.std.specs.Prelude.{All}
use Rattle.std.specs.List.{flat_map, range_with_len}
use Rattle.std.proofs.lemmas.Bool.{lt-ltb, ltb-true, cases_lt, cases_eq, eq-eqb, ne_eqb, le-ltb}
use Rattle.std.proofs.lemmas.List.{drop_at, drop-drop, ext_get_or}
use Rattle.std.proofs.lemmas.List.Elements.{All-head, All-tail}
use Rattle.std.proofs.lemmas.List.FromFn.{get_or-map-range_with_len, length-map-range_with_len}
use Rattle.byteorder.specs.Endian.{little_number, little_bytes}
use Rattle.byteorder.specs.Numbers.{little_number-reads_back, length-bytes_low_first}
use Rattle.p11_rk11.specs.Place.{Place, sector_number, next_place}
use Rattle.p11_rk11.specs.Calls.Places.{is_on_disk}
use Rattle.p11_rk11.specs.Laws.Places.{place_of_number}
use Rattle.p11_rk11.specs.Sector.{words_of_sector, bytes_of_words}
use Rattle.p11_rk11.proofs.Words.{both_hold}

pub number_then_place : (p : Place) → p.surface < 2 → is_on_disk p ≡ true → place_of_number p.drive (sector_number p) ≡ p
unfolding place_of_number sector_number is_on_disk
number_then_place p surface on =
    let sector : p.sector < 12 = ltb-true p.sector 12 (both_hold _ _ on).0 in
    let n : ℕ = (p.cylinder * 2 + p.surface) * 12 + p.sector in
    let c : n / 24 ≡ p.cylinder = omega (arith, surface, sector) in
    let u : n / 12 % 2 ≡ p.surface = omega (arith, surface, sector) in
    let s : n % 12 ≡ p.sector = omega (arith, surface, sector) in
    rw (c, u, s) refl

pub place_then_number : (drive n : ℕ) → sector_number (place_of_number drive n) ≡ n
unfolding place_of_number sector_number
place_then_number drive n = omega arith

pub place_on_disk : (drive n : ℕ) → n < 4872 → is_on_disk (place_of_number drive n) ≡ true
unfolding place_of_number is_on_disk
place_on_disk drive n lt =
    rw (lt-ltb (n % 12) 12 (omega arith), lt-ltb (n / 24) 203 (omega (arith, lt))) refl

pub next_number : (p : Place) → p.surface < 2 → is_on_disk p ≡ true → sector_number (next_place p) ≡ sector_number p + 1
unfolding sector_number next_place is_on_disk
next_number p surface on =
    let sector : p.sector < 12 = ltb-true p.sector 12 (both_hold _ _ on).0 in
    elim (cases_lt (p.sector + 1) 12) [
      | inl lt ↦ rw (lt-ltb (p.sector + 1) 12 lt) (omega arith)
      | inr ge ↦
          elim (cases_eq p.surface 0) [
            | inl none ↦ rw (le-ltb (p.sector + 1) 12 ge, eq-eqb p.surface 0 none) (omega (arith, sector, ge, none))
            | inr some ↦ rw (le-ltb (p.sector + 1) 12 ge, ne_eqb p.surface 0 some) (omega (arith, sector, ge, surface, some))
          ]
    ]

-- word k of the bytes of words
word_of_bytes : (words : List ℕ) (k : ℕ) → All (λ word. word < 0o200000) words → k < length words → little_number 2 (drop (2 * k) (flat_map (little_bytes 2) words)) ≡ get_or words k 0
word_of_bytes [] k each lt = absurd (omega (arith, lt))
word_of_bytes (x ∷ xs) zero each lt =
    little_number-reads_back 2 x (flat_map (little_bytes 2) xs) (All-head (λ (word : ℕ). word < 0o200000) x xs each)
word_of_bytes (x ∷ xs) (suc k) each lt =
    let on : 2 * suc k ≡ 2 + 2 * k = omega arith in
    ap (λ (m : ℕ). little_number 2 (drop m (little_bytes 2 x ++ flat_map (little_bytes 2) xs))) on
    ∙ ap (little_number 2)
    (sym (drop-drop (2 * k) 2 (little_bytes 2 x ++ flat_map (little_bytes 2) xs))
    ∙ ap (drop (2 * k)) (drop_at (little_bytes 2 x) (flat_map (little_bytes 2) xs) 2 (length-bytes_low_first 0 2 x)))
    ∙ word_of_bytes xs k (All-tail (λ (word : ℕ). word < 0o200000) x xs each) (omega (arith, lt))

-- a sector's bytes, made of 256 words, give the words back
pub words_again : (words : List ℕ) → length words ≡ 256 → All (λ word. word < 0o200000) words → words_of_sector (bytes_of_words words) ≡ words
unfolding words_of_sector bytes_of_words
words_again words len each =
    let bytes : List ℕ = flat_map (little_bytes 2) words in
    let f : ℕ → ℕ = λ k. little_number 2 (drop (2 * k) bytes) in
    ext_get_or 0 (map f (range_with_len 0 256)) words (length-map-range_with_len f 0 256 ∙ sym len)
    (λ i lt.
    let below : i < 256 = omega (arith, lt, length-map-range_with_len f 0 256) in
    get_or-map-range_with_len f 0 256 i i 0 below (omega arith) ∙ word_of_bytes words i each (omega (arith, below, len)))
