-- Keys that are pressed one after another.
use Rattle.std.specs.Prelude.{ℕ, List, fold}
use Rattle.p11_cpu.specs.State.{State}
use Rattle.p11_cpu.specs.OperatorDevices.{key_of}

-- the machine once the keys are pressed
unfoldable pub pressed : List ℕ → State → State
pressed keys s = fold (λ (before : State) key. (key_of key before).0) s keys
