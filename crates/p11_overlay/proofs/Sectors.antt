-- The sectors of an image, and the image that sectors make.
use Rattle.std.proofs.Common.{min, rules, replicate, ◌≡◌, ℕ, zero, suc, ◌+◌, ◌-◌, ◌*◌, ◌<◌, ◌≤◌, arith, Bool, List, [], ◌∷◌, ◌++◌, length, take, drop, map, get_or, ap, refl, sym, ◌∙◌}
use Rattle.std.specs.List.{All, IsDistinct, range_with_len, concat}
use Rattle.std.proofs.Math.Seq.{drop-append-add, take-add}
use Rattle.std.proofs.lemmas.List.{same_lists, places, append_assoc, append-nil, length-append, drop-drop, drop-replicate, drop_at, length-drop, length-replicate, length-take-le, take_all, take_at, take_more, take_rest, take-replicate}
use Rattle.std.proofs.lemmas.List.Elements.{All-from_get_or, All-head, All-nil, All-tail}
use Rattle.std.proofs.lemmas.List.FromFn.{fill_by_all, get_or-map-range_with_len, length-map-range_with_len, map-range_with_len_more, take-map-range_with_len}
use Rattle.p11_overlay.specs.Kept.Prepared.{IsWhole}
use Rattle.p11_overlay.specs.Drive.{filled, mounted, sector_within, sectors_of}
use Rattle.p11_overlay.specs.Geometry.{all_sectors, image_bytes}
use Rattle.std.specs.Int.{div_ceil}
use Rattle.p11_overlay.specs.Kept.Sectors.{base_of}

-- one more list at the end
pub concat-push : (xss : List (List ℕ)) (xs : List ℕ) → concat (xss ++ xs ∷ []) ≡ concat xss ++ xs
concat-push [] xs = append-nil xs
concat-push (ys ∷ xss) xs = ap (λ zs. ys ++ zs) (concat-push xss xs) ∙ sym (append_assoc ys (concat xss) xs)

-- a loop's step over the lists
pub concat-take_more : (xss : List (List ℕ)) (i : ℕ) → i < length xss → concat (take (i + 1) xss) ≡ concat (take i xss) ++ get_or xss i []
concat-take_more xss i within = ap concat (take_more xss i [] within) ∙ concat-push (take i xss) (get_or xss i [])

-- lists of one length, joined
pub length-concat : (xss : List (List ℕ)) (n : ℕ) → All (λ xs. length xs ≡ n) xss → length (concat xss) ≡ length xss * n
length-concat [] n each = omega arith
length-concat (xs ∷ xss) n each =
    let head : length xs ≡ n = All-head (λ ys. length ys ≡ n) xs xss each in
    let tail : length (concat xss) ≡ length xss * n = length-concat xss n (All-tail (λ ys. length ys ≡ n) xs xss each) in
    omega (arith, length-append xs (concat xss))

-- bytes from a place on, as far as there are any, and then zeros: a part of the bytes with zeros behind them
pub part_and_zeros : (xs : List ℕ) (at size behind start len : ℕ) → start ≡ min at (length xs) → len ≡ min (length xs - start) size → at + size ≤ length xs + behind → take len (drop start xs) ++ replicate (size - len) 0 ≡ take size (drop at (xs ++ replicate behind 0))
part_and_zeros xs at size behind start len is_start is_len fits =
    same_lists _ _ (search (rules, places)) (λ k d h. grind (arith, places))

-- the same, as the code cuts the bytes
pub cut_and_zeros : (xs : List ℕ) (at size behind start len : ℕ) → start ≡ min at (length xs) → len ≡ min (length xs - start) size → at + size ≤ length xs + behind → take len (take (length xs - start) (drop start xs)) ++ replicate (size - length (take len (take (length xs - start) (drop start xs)))) 0 ≡ take size (drop at (xs ++ replicate behind 0))
cut_and_zeros xs at size behind start len is_start is_len fits =
    let whole : take (length xs - start) (drop start xs) ≡ drop start xs = take_rest xs start in
    let long : length (take len (drop start xs)) ≡ len = length-take-le len (drop start xs) (omega (arith, length-drop start xs)) in
    rw (whole, long) (part_and_zeros xs at size behind start len is_start is_len fits)

-- a byte string at the front of a sector of zeros
pub zeros_behind : (front bytes sector : List ℕ) → front ≡ bytes → sector ≡ replicate 512 0 → front ++ drop (length bytes) sector ≡ bytes ++ replicate (512 - length bytes) 0
zeros_behind front bytes sector same empty = rw (same, empty, drop-replicate {X = ℕ} (length bytes) 512 0) refl

-- one more sector made
pub sectors_more : (image : List ℕ) (n : ℕ) (made : List (List ℕ)) (sector : List ℕ) → made ≡ map (sector_within (filled image)) (range_with_len 0 n) → sector ≡ sector_within (filled image) n → made ++ sector ∷ [] ≡ map (sector_within (filled image)) (range_with_len 0 (n + 1))
sectors_more image n made sector so_far new =
    rw (map-range_with_len_more (sector_within (filled image)) 0 n n (omega arith), so_far, new) refl

-- the sectors made one after another, once there are all that have bytes of the image
pub sectors_made : (image : List ℕ) (n count : ℕ) (made : List (List ℕ)) → n ≡ count → count ≡ div_ceil (length image) 512 → length image ≤ image_bytes → made ≡ map (sector_within (filled image)) (range_with_len 0 n) → made ≡ base_of image
unfolding base_of sectors_of
sectors_made image n count made all is_count fits so_far =
    let within : count ≤ all_sectors = omega arith in
    so_far ∙ ap (λ (k : ℕ). map (sector_within (filled image)) (range_with_len 0 k)) all
    ∙ sym (take-map-range_with_len (sector_within (filled image)) 0 all_sectors count within)
    ∙ ap (λ (k : ℕ). take k (map (sector_within (filled image)) (range_with_len 0 all_sectors))) is_count

pub length-filled : (image : List ℕ) → length image ≤ image_bytes → length (filled image) ≡ image_bytes
unfolding filled
length-filled image fits =
    length-append image (replicate (image_bytes - length image) 0) ∙ omega (arith, length-replicate {A = ℕ} (image_bytes - length image) 0)

-- a whole sector lies within enough bytes
pub length-sector_within : (bytes : List ℕ) (n : ℕ) → n * 512 + 512 ≤ length bytes → length (sector_within bytes n) ≡ 512
length-sector_within bytes n within =
    length-take-le 512 (drop (n * 512) bytes) (omega (arith, length-drop (n * 512) bytes))

-- a sector behind the image's last byte
past_bytes : (image : List ℕ) (at zeros : ℕ) → length image ≤ at → at + 512 ≤ length image + zeros → take 512 (drop at (image ++ replicate zeros 0)) ≡ replicate 512 0
past_bytes image at zeros past within =
    let from : at ≡ length image + (at - length image) = omega arith in
    let behind : drop at (image ++ replicate zeros 0) ≡ drop (at - length image) (replicate zeros 0) =
    ap (λ (k : ℕ). drop k (image ++ replicate zeros 0)) from ∙ drop-append-add image (replicate zeros 0) (at - length image) in
    let left : drop (at - length image) (replicate zeros 0) ≡ replicate (zeros - (at - length image)) 0 = drop-replicate {X = ℕ} (at - length image) zeros 0 in
    let enough : 512 ≤ zeros - (at - length image) = omega arith in
    rw (behind, left) (take-replicate {X = ℕ} 512 (zeros - (at - length image)) 0 enough)

pub sector_past : (image : List ℕ) (n : ℕ) → length image ≤ n * 512 → n < all_sectors → length image ≤ image_bytes → sector_within (filled image) n ≡ replicate 512 0
unfolding filled
sector_past image n past within fits = past_bytes image (n * 512) (image_bytes - length image) past (omega arith)

pub All-sector_within : (bytes : List ℕ) (n : ℕ) → n * 512 ≤ length bytes → All (λ sector. length sector ≡ 512) (map (sector_within bytes) (range_with_len 0 n))
All-sector_within bytes n within =
    All-from_get_or (λ (sector : List ℕ). length sector ≡ 512) (map (sector_within bytes) (range_with_len 0 n)) []
    (λ i below.
    let in_range : i < n = omega (arith, length-map-range_with_len (sector_within bytes) 0 n) in
    let at : get_or (map (sector_within bytes) (range_with_len 0 n)) i [] ≡ sector_within bytes i = get_or-map-range_with_len (sector_within bytes) 0 n i i [] in_range (omega arith) in
    ap length at ∙ length-sector_within bytes i (omega arith))

-- the first n sectors, joined
pub concat-sector_within : (bytes : List ℕ) (n : ℕ) → concat (map (sector_within bytes) (range_with_len 0 n)) ≡ take (n * 512) bytes
concat-sector_within bytes zero = refl
concat-sector_within bytes (suc n) =
    let more : map (sector_within bytes) (range_with_len 0 (n + 1)) ≡ map (sector_within bytes) (range_with_len 0 n) ++ sector_within bytes n ∷ [] = map-range_with_len_more (sector_within bytes) 0 n n (omega arith) in
    let next : suc n * 512 ≡ n * 512 + 512 = omega arith in
    let one : suc n ≡ n + 1 = omega arith in
    ap (λ (k : ℕ). concat (map (sector_within bytes) (range_with_len 0 k))) one ∙ ap concat more ∙ (concat-push (map (sector_within bytes) (range_with_len 0 n)) (sector_within bytes n) ∙ (ap (λ (front : List ℕ). front ++ sector_within bytes n) (concat-sector_within bytes n) ∙ (sym (take-add (n * 512) 512 bytes) ∙ ap (λ (k : ℕ). take k bytes) (sym next))))

pub concat-sectors_of : (image : List ℕ) → length image ≤ image_bytes → concat (sectors_of image) ≡ filled image
unfolding sectors_of
concat-sectors_of image fits =
    concat-sector_within (filled image) all_sectors ∙ take_all (all_sectors * 512) (filled image) (omega (arith, length-filled image fits))

pub length-sectors_of : (image : List ℕ) → length (sectors_of image) ≡ all_sectors
unfolding sectors_of
length-sectors_of image = length-map-range_with_len (sector_within (filled image)) 0 all_sectors

pub All-sectors_of : (image : List ℕ) → length image ≤ image_bytes → All (λ sector. length sector ≡ 512) (sectors_of image)
unfolding sectors_of
All-sectors_of image fits = All-sector_within (filled image) all_sectors (omega (arith, length-filled image fits))

pub whole_mounted : (image : List ℕ) (protected : Bool) → length image ≤ image_bytes → IsWhole (mounted image protected)
unfolding IsDistinct
whole_mounted image protected fits = record {
  count = length-sectors_of image;
  bytes = All-sectors_of image fits;
  numbers = All-nil (λ n. n < all_sectors);
  once = tt;
}

-- the n-th of lists of one length, found in the joined lists
pub part_of_concat : (k : ℕ) (xss : List (List ℕ)) (n : ℕ) → All (λ xs. length xs ≡ k) xss → n < length xss → take k (drop (n * k) (concat xss)) ≡ get_or xss n []
part_of_concat k [] n each within = absurd (omega arith)
part_of_concat k (xs ∷ xss) zero each within =
    let head : length xs ≡ k = All-head (λ (ys : List ℕ). length ys ≡ k) xs xss each in
    let none : zero * k ≡ 0 = omega arith in
    ap (λ (m : ℕ). take k (drop m (xs ++ concat xss))) none ∙ take_at xs (concat xss) k head
part_of_concat k (xs ∷ xss) (suc n) each within =
    let head : length xs ≡ k = All-head (λ (ys : List ℕ). length ys ≡ k) xs xss each in
    let next : suc n * k ≡ k + n * k = omega arith in
    let later : drop (suc n * k) (xs ++ concat xss) ≡ drop (n * k) (concat xss) =
    ap (λ (m : ℕ). drop m (xs ++ concat xss)) next ∙ (sym (drop-drop (n * k) k (xs ++ concat xss)) ∙ ap (drop (n * k)) (drop_at xs (concat xss) k head)) in
    ap (take k) later ∙ part_of_concat k xss n (All-tail (λ (ys : List ℕ). length ys ≡ k) xs xss each) (omega arith)

-- a whole pack's bytes leave no place for zeros
pub filled_full : (image : List ℕ) → length image ≡ image_bytes → filled image ≡ image
unfolding filled
filled_full image full =
    let none : image_bytes - length image ≡ 0 = omega arith in
    rw none (append-nil image)

-- lists of 512 bytes, cut from the joined lists
pub sectors_again : (bytes : List ℕ) (sectors : List (List ℕ)) (n : ℕ) → bytes ≡ concat sectors → length sectors ≡ n → All (λ sector. length sector ≡ 512) sectors → map (sector_within bytes) (range_with_len 0 n) ≡ sectors
sectors_again bytes sectors n joined count each =
    sym (fill_by_all (sector_within bytes) sectors n [] count
    (λ i within. sym (ap (λ (all : List ℕ). sector_within all i) joined ∙ part_of_concat 512 sectors i each (omega arith))))

-- the joined sectors make the same sectors again
pub sectors_of-concat : (sectors : List (List ℕ)) → length sectors ≡ all_sectors → All (λ sector. length sector ≡ 512) sectors → sectors_of (concat sectors) ≡ sectors
unfolding sectors_of
sectors_of-concat sectors count each =
    let full : length (concat sectors) ≡ image_bytes = length-concat sectors 512 each ∙ omega arith in
    sectors_again (filled (concat sectors)) sectors all_sectors (filled_full (concat sectors) full) count each
