-- Due turns and turns.
use Rattle.std.specs.Prelude.{ℕ, ◌<◌, ◌≤◌, Option, Some, None}

-- a turn comes before a due turn, if there is one
abbrev pub IsBefore : ℕ → Option ℕ → Type 0
IsBefore turn None = Unit {0}
IsBefore turn (Some due) = turn < due

-- a turn does not come after a due turn, if there is one
abbrev pub IsNotAfter : ℕ → Option ℕ → Type 0
IsNotAfter turn None = Unit {0}
IsNotAfter turn (Some due) = turn ≤ due
