-- The transmitter section of the console line.
use Rattle.std.specs.Prelude.{Bool, Option, is_none}
use Rattle.p11_dl11.specs.declared.transmitter.Sending.{Sending}

pub record TransmitterState : Type 0 where
  -- transmitter status, bit 6: the transmitter may interrupt
  pub enable : Bool
  -- an interrupt is requested
  pub request : Bool
  -- the character that is being sent, with the turn in which it is typed, if any
  pub sending : Option Sending

-- transmitter status, bit 7: the transmitter is ready for a character exactly while it sends none
abbrev pub is_ready : TransmitterState → Bool
is_ready t = is_none t.sending
