-- What is done at an address where a register stands or none does.
use Rattle.std.specs.Prelude.{ℕ, Option}
use Rattle.std.specs.Option.{option_map_or}
use Rattle.p11_unibus.specs.declared.register.Register.{Register}
use Rattle.p11_unibus.specs.Bus.{register_changed, register_after_read}
use Rattle.p11_unibus.specs.State.{BusState}

abbrev pub changed_there : ℕ → Option Register → ℕ → BusState → BusState
changed_there turn register word b = option_map_or (λ r. register_changed turn r word b) register b

abbrev pub read_there : Option Register → BusState → BusState
read_there register b = option_map_or (λ r. register_after_read r b) register b
