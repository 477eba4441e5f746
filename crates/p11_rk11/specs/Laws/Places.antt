-- The place that a sector's number names.
use Rattle.std.specs.Prelude.{ℕ, ◌/◌, ◌%◌}
use Rattle.p11_rk11.specs.Place.{Place}

-- the place of a sector of a drive, by its number
unfoldable pub place_of_number : ℕ → ℕ → Place
place_of_number drive n = record { drive = drive; cylinder = n / 24; surface = n / 12 % 2; sector = n % 12 }
