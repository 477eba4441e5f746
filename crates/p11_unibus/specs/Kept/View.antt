-- What contracts see of a bus.
use Rattle.std.specs.Prelude.{ℕ, List}
use Rattle.p11_unibus.specs.HostMemory.{Prepared}
use Rattle.p11_unibus.specs.State.{BusState}

-- What contracts see of a bus: all that a program or the operator may see of it, and beside it what is prepared, and
-- the addresses of the words of memory that were written since that was last asked.
pub record UnibusView : Type 0 where
  pub visible : BusState
  pub prepared : Prepared
  pub written : List ℕ
