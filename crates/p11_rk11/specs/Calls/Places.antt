-- Numbers of sectors that are on a disk.
use Rattle.std.specs.Prelude.{Bool, ◌&&◌, nat_lt}
use Rattle.p11_overlay.specs.Geometry.{cylinders, track_sectors}
use Rattle.p11_rk11.specs.Place.{Place}

-- sectors are numbered 0 to 11 and cylinders 0 to 202
unfoldable pub is_on_disk : Place → Bool
is_on_disk p = nat_lt p.sector track_sectors && nat_lt p.cylinder cylinders
