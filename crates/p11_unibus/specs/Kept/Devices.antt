-- What is said of each device on the bus.
use Rattle.std.specs.Prelude.{ℕ, List, [], ◌∷◌, Option}
use Rattle.p11_dl11.specs.Laws.DueTurns.{IsBefore, IsNotAfter}

-- a turn comes after none of these due turns
abbrev pub AfterNone : ℕ → List (Option ℕ) → Type 0
AfterNone turn [] = Unit {0}
AfterNone turn (due ∷ others) = IsNotAfter turn due × AfterNone turn others

-- a turn comes before each of these due turns
abbrev pub BeforeEach : ℕ → List (Option ℕ) → Type 0
BeforeEach turn [] = Unit {0}
BeforeEach turn (due ∷ others) = IsBefore turn due × BeforeEach turn others
