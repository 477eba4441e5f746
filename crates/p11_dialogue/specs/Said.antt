-- What is said freely: where, and not what.
use Rattle.std.specs.Prelude.{◌≡◌, ℕ, List, ◌++◌}

-- some bytes, or none, came behind these
abbrev pub Says : List ℕ → List ℕ → Type 0
Says old new = (said : List ℕ) × (new ≡ old ++ said)

-- some bytes, or none, came behind these, and then a text
abbrev pub SaysBefore : List ℕ → List ℕ → List ℕ → Type 0
SaysBefore old text new = (said : List ℕ) × (new ≡ (old ++ said) ++ text)
