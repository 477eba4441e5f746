-- What gets to the writer behind which a terminal may be.
use Rattle.std.specs.Prelude.{◌≡◌, ℕ, Bool, List, ◌++◌, Option, if◌then◌else◌}
use Rattle.std.specs.Io.KnownBytes.{Appends}
use Rattle.p11_shown.specs.Screen.{ScreenState, passed}

-- what passes of some bytes behind others, or all of them
abbrev pub let_through : Bool → ScreenState → List ℕ → List ℕ
let_through is_raw screen bytes = if is_raw then bytes else passed screen bytes

-- a front of a text is written: nothing, a part, or all of it
abbrev pub AppendsFront : Option (List ℕ) → Option (List ℕ) → List ℕ → Type 0
AppendsFront old new text = (front : List ℕ) × (rest : List ℕ) × (text ≡ front ++ rest) × Appends old new front
