use Rattle.p11_kt11.proofs.Keeping.{user_stays_off}
use Rattle.p11_kt11.proofs.laws.translation_keeps_user_off_io_page.Goals as goal

pub returns : goal.returns
returns c = user_stays_off
