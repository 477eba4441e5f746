-- The DL11 console line: all that a program, the operator and the turns can see of it.
use Rattle.p11_dl11.specs.ReceiverState.{ReceiverState}
use Rattle.p11_dl11.specs.TransmitterState.{TransmitterState}

pub record LineState : Type 0 where
  pub receiver : ReceiverState
  pub transmitter : TransmitterState
