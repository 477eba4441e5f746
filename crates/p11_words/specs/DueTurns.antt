-- When a device acts by itself.
use Rattle.std.specs.Prelude.{ℕ, Bool, false, ◌==◌, Option, Some, None}

-- whether an act with this due turn, if it has one, is due in this turn
unfoldable pub is_due : ℕ → Option ℕ → Bool
is_due turn None = false
is_due turn (Some due) = due == turn
