-- The bits of a status word that have no field.
use Rattle.std.specs.Prelude.{ℕ, ◌+◌, ◌*◌, ◌/◌, ◌%◌}

-- a word with its bits 11:8 made 0
unfoldable pub without_unused : ℕ → ℕ
without_unused word = word / 0o10000 * 0o10000 + word % 0o400
