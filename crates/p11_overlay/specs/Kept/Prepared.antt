-- What contracts see of a drive, and the sectors that are prepared on it.
use Rattle.std.specs.List.{list_any, IsDistinct}
use Rattle.std.specs.Prelude.{ℕ, List, IsTrue, nat_eq, ◌≡◌, ◌<◌, length, All}
use Rattle.p11_overlay.specs.Drive.{Contents}
use Rattle.p11_overlay.specs.Geometry.{all_sectors, sector_bytes}

-- The contents, and the numbers of the sectors that may be written without taking memory.
-- The order of these means nothing: see `IsPrepared`.
pub record DriveState : Type 0 where
  pub contents : Contents
  pub prepared : List ℕ

-- a write of sector n takes no memory
abbrev pub IsPrepared : DriveState → ℕ → Type 0
IsPrepared drive n = IsTrue (list_any (nat_eq n) drive.prepared)

-- sector n was written since the mount
abbrev pub IsChanged : Contents → ℕ → Type 0
IsChanged contents n = IsTrue (list_any (nat_eq n) contents.changed)

-- What every drive has: 4,872 sectors of 512 bytes, and each changed sector listed once.
pub record IsWhole (contents : Contents) : Type 0 where
  pub count : length contents.sectors ≡ all_sectors
  pub bytes : All (λ sector. length sector ≡ sector_bytes) contents.sectors
  pub numbers : All (λ n. n < all_sectors) contents.changed
  pub once : IsDistinct nat_eq contents.changed
