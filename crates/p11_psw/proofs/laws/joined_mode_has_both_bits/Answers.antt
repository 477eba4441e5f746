use Rattle.p11_psw.proofs.Modes.{mode_number-joined_mode}
use Rattle.p11_psw.proofs.laws.joined_mode_has_both_bits.Goals as goal

pub returns : goal.returns
returns c = mode_number-joined_mode
