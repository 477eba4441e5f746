-- What registers have to do with memory: nothing.
use Rattle.std.proofs.Common.{◌≡◌, ℕ, refl}
use Rattle.std.specs.Prelude.{Option, Some, None, option_map}
use Rattle.p11_memory.specs.Memory.{Words}
use Rattle.p11_unibus.specs.declared.register.Register.{Register}
use Rattle.p11_unibus.specs.declared.register.Register.TheVariants.{Clock, Line, Disk, Switches}
use Rattle.p11_unibus.specs.State.{BusState}
use Rattle.p11_unibus.specs.Bus.{register_word}

-- the word that shows where a register stands or none does
abbrev pub word_there : ℕ → Option Register → BusState → Option ℕ
word_there turn register b = option_map (λ r. register_word turn r b) register

-- a register shows the same whatever memory holds
pub memory_shows_in_no_register : (turn : ℕ) (r : Option Register) (b : BusState) (m : Words) →
    word_there turn r (record b { memory = m }) ≡ word_there turn r b
unfolding register_word
memory_shows_in_no_register turn None b m = refl
memory_shows_in_no_register turn (Some (Clock r)) b m = refl
memory_shows_in_no_register turn (Some (Line r)) b m = refl
memory_shows_in_no_register turn (Some (Disk r)) b m = refl
memory_shows_in_no_register turn (Some Switches) b m = refl
