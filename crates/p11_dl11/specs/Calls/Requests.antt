-- Both requests of the line at once.
use Rattle.std.specs.Prelude.{Bool}
use Rattle.p11_dl11.specs.LineState.{LineState}
use Rattle.p11_dl11.specs.declared.register.Section.{Section}
use Rattle.p11_dl11.specs.declared.register.Section.TheVariants.{Receiver, Transmitter}

-- whether a section requests an interrupt
abbrev pub line_requests : Section → LineState → Bool
line_requests Receiver l = l.receiver.request
line_requests Transmitter l = l.transmitter.request
