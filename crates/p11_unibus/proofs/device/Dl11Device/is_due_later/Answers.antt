use Rattle.p11_unibus.proofs.DeviceLaws.{line_is_due_later}
use Rattle.p11_unibus.proofs.device.Dl11Device.is_due_later.Goals as goal

pub returns : goal.returns
returns g c = λ asked turn memory. line_is_due_later asked turn
