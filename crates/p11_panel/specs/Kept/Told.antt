-- How the logic stores the reads of a reader.
use Rattle.std.specs.Prelude.{ℕ, Option, List, refl}
use Rattle.std.specs.Coded.{Coded, code_by, coded×, coded_list, coded_option, coded_ℕ}
use Rattle.p11_panel.specs.declared.read_call.ReadCall.{ReadCall}

abbrev pub read_code : Coded ReadCall
read_code = code_by (ℕ × Option ℕ) (coded× coded_ℕ (coded_option coded_ℕ))
    (λ read. (read.room, read.gave)) (λ fields. record { room = fields.0; gave = fields.1 }) (λ _. refl)

abbrev pub reads_code : Coded (List ReadCall)
reads_code = coded_list read_code
