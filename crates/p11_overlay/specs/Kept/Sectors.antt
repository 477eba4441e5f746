-- How this drive keeps a pack: the sectors of the mounted image as a base, and over it those that were made ready for
-- a write or written since. Nothing outside the drive speaks of it.
use Rattle.std.specs.Prelude.{◌≡◌, ℕ, ◌<◌, ◌≤◌, Bool, true, false, nat_eq, is_some, List, length, map, take, replicate, slice_index_or, All, Option, Some, None}
use Rattle.std.specs.Int.{div_ceil}
use Rattle.std.specs.List.{list_any, range_with_len, IsDistinct}
use Rattle.p11_overlay.specs.Drive.{Contents, sectors_of}
use Rattle.p11_overlay.specs.Geometry.{all_sectors, sector_bytes}

-- the sectors on which an image has bytes
unfoldable pub base_of : List ℕ → List (List ℕ)
base_of image = take (div_ceil (length image) sector_bytes) (sectors_of image)

-- sector n of a base, behind which there are zeros
unfoldable pub base_sector : List (List ℕ) → ℕ → List ℕ
base_sector base n = slice_index_or base n (replicate sector_bytes 0)

-- what is kept over a sector of the base, or else that sector
abbrev pub over_base : List (List ℕ) → ℕ → Option (List ℕ) → List ℕ
over_base base n (Some bytes) = bytes
over_base base n None = base_sector base n

-- all sectors
unfoldable pub sectors_over : List (List ℕ) → (ℕ → Option (List ℕ)) → List (List ℕ)
sectors_over base kept = map (λ n. over_base base n (kept n)) (range_with_len 0 all_sectors)

abbrev pub contents_of : List (List ℕ) → (ℕ → Option (List ℕ)) → Bool → List ℕ → Contents
contents_of base kept protected changed =
    record { sectors = sectors_over base kept; protected = protected; changed = changed }

-- A sector that is kept is either listed as changed or the base's own, and each changed one is kept. The list has room
-- for as many as are kept.
pub record IsKept (base : List (List ℕ)) (kept : ℕ → Option (List ℕ)) (count : ℕ) (changed : List ℕ) (room : ℕ)
    : Type 0 where
  pub bytes : All (λ sector. length sector ≡ sector_bytes) base
  pub whole : (n : ℕ) (bytes : List ℕ) → kept n ≡ Some bytes → length bytes ≡ sector_bytes
  pub unwritten : (n : ℕ) (bytes : List ℕ) → kept n ≡ Some bytes → list_any (nat_eq n) changed ≡ false
      → bytes ≡ base_sector base n
  pub written : (n : ℕ) → list_any (nat_eq n) changed ≡ true → is_some (kept n) ≡ true
  pub numbers : All (λ n. n < all_sectors) changed
  pub once : IsDistinct nat_eq changed
  pub room_for_all : count ≤ room
