-- What memory the host has ready for the acts of a turn. It is no part of the machine: no definition of a turn asks it.
use Rattle.std.specs.Prelude.{ℕ, List}

-- for each drive the sectors that may be written, and room for so many typed characters
pub record Prepared : Type 0 where
  pub sectors : List (List ℕ)
  pub room : ℕ
