-- The receiver section of the console line.
use Rattle.std.specs.Prelude.{ℕ, Bool, List}

pub record ReceiverState : Type 0 where
  -- receiver status, bit 7: a character is in the buffer and has not been read
  pub done : Bool
  -- receiver status, bit 6: the receiver may interrupt
  pub enable : Bool
  -- an interrupt is requested
  pub request : Bool
  -- the receiver buffer
  pub character : ℕ
  -- the keys that were pressed and wait, the first pressed first
  pub keys : List ℕ
  -- the first turn in which the receiver may take another key
  pub next_turn : ℕ
