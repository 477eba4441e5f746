-- What one read of a source is.
use Rattle.std.specs.Prelude.{ℕ, List, length, Result}
use Rattle.std.specs.Result.{result_ok}
use Rattle.p11_panel.specs.declared.read_call.ReadCall.{ReadCall}

-- the read into a buffer that ended so
abbrev pub read_into : {E : Type 0} → List ℕ → Result ℕ E → ReadCall
read_into buffer result = record { room = length buffer; gave = result_ok result }
