-- How a change of the line is told.
use Rattle.std.specs.Prelude.{ℕ, Bool, ◌&&◌, if◌then◌else◌}
use Rattle.p11_line_editor.specs.declared.outcome.Outcome.{Outcome}
use Rattle.p11_line_editor.specs.declared.outcome.Outcome.TheVariants.{Typed, Changed, Bell}

-- a change that was done, or for which there was no room
abbrev pub told : Bool → Outcome
told is_done = if is_done then Changed else Bell

-- a character that was put at the end of the line, or elsewhere
abbrev pub told_of : ℕ → Bool → Bool → Outcome
told_of byte is_last is_done = if is_done && is_last then Typed byte else told is_done
