-- The disk address register, RKDA: a drive, and a place on it.
use Rattle.std.specs.Prelude.{ℕ, ◌+◌, ◌*◌, ◌/◌, ◌%◌, ◌==◌, nat_lt, if◌then◌else◌}
use Rattle.p11_overlay.specs.Geometry.{track_sectors}

-- A pack has cylinders to 202 and sectors to 11. The register has room for cylinders to 255 and sectors to 15, and for
-- drives to 7.
pub record Place : Type 0 where
  pub drive : ℕ
  pub cylinder : ℕ
  pub surface : ℕ
  pub sector : ℕ

-- RKDA: 3:0 sector, 4 surface, 12:5 cylinder, 15:13 drive
unfoldable pub place_of_word : ℕ → Place
place_of_word word =
    record { drive = word / 0o20000; cylinder = word / 0o40 % 0o400; surface = word / 0o20 % 2; sector = word % 0o20 }

unfoldable pub word_of_place : Place → ℕ
word_of_place p = p.drive * 0o20000 + p.cylinder * 0o40 + p.surface * 0o20 + p.sector

-- the number of a sector on its drive, 0 to 4,871
unfoldable pub sector_number : Place → ℕ
sector_number p = (p.cylinder * 2 + p.surface) * track_sectors + p.sector

-- the next sector of the track, else the first of the other surface, else the first of the next cylinder
unfoldable pub next_place : Place → Place
next_place p =
    if nat_lt (p.sector + 1) track_sectors then record p { sector = p.sector + 1 }
    else (if p.surface == 0 then record p { surface = 1; sector = 0 }
    else record p { cylinder = p.cylinder + 1; surface = 0; sector = 0 })
