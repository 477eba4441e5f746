-- Pages that any memory management has.
use Rattle.std.specs.Prelude.{◌≡◌, ◌<◌, length}
use Rattle.p11_kt11.specs.Management.{Management}

-- what every unit keeps: eight pages in each space, and SR2 a word
pub record IsManagement (s : Management) : Type 0 where
  pub kernel : length s.kernel ≡ 8
  pub user : length s.user ≡ 8
  pub instruction : s.instruction < 0o200000
