-- An RK05 drive with a pack on it, and what the pack holds. The sectors are numbered by cylinder, then by surface, then
-- by their place in the track.
use Rattle.std.specs.Prelude.{ℕ, ◌-◌, ◌*◌, Bool, nat_eq, List, [], ◌∷◌, ◌++◌, length, take, drop, map, replicate, slice_set, slice_index_or, if◌then◌else◌}
use Rattle.std.specs.List.{list_any, range_with_len, concat}
use Rattle.p11_overlay.specs.Geometry.{all_sectors, sector_bytes, image_bytes}

-- The bytes of each sector, the write-protect mark, and the numbers of the sectors that were written
-- since the mount, each once, in the order of their first writes.
pub record Contents : Type 0 where
  pub sectors : List (List ℕ)
  pub protected : Bool
  pub changed : List ℕ

-- the bytes of sector n
abbrev pub sector_of : Contents → ℕ → List ℕ
sector_of contents n = slice_index_or contents.sectors n []

-- all sectors, one after another
abbrev pub image_of : Contents → List ℕ
image_of contents = concat contents.sectors

-- an image's bytes, and zeros behind them up to the whole pack
unfoldable pub filled : List ℕ → List ℕ
filled image = image ++ replicate (image_bytes - length image) 0

-- the n-th 512 bytes
abbrev pub sector_within : List ℕ → ℕ → List ℕ
sector_within bytes n = take sector_bytes (drop (n * sector_bytes) bytes)

-- the sectors that an image makes
unfoldable pub sectors_of : List ℕ → List (List ℕ)
sectors_of image = map (sector_within (filled image)) (range_with_len 0 all_sectors)

-- a drive on which an image was mounted
abbrev pub mounted : List ℕ → Bool → Contents
mounted image protected = record { sectors = sectors_of image; protected = protected; changed = [] }

-- the changed sectors after a write of sector n: a first write puts it last, a later one leaves the list
abbrev pub changed_with : List ℕ → ℕ → List ℕ
changed_with changed n = if list_any (nat_eq n) changed then changed else changed ++ n ∷ []

-- a drive after a write of sector n
abbrev pub written : Contents → ℕ → List ℕ → Contents
written contents n bytes =
    record contents { sectors = slice_set contents.sectors n bytes; changed = changed_with contents.changed n }
