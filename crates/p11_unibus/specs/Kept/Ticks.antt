-- A tick of the line clock that interrupts in its own turn.
use Rattle.std.specs.Prelude.{ℕ, Bool, ◌&&◌, nat_lt}
use Rattle.p11_psw.specs.Fields.{priority_number}
use Rattle.p11_psw.specs.declared.priority.Priority.{Priority}
use Rattle.p11_psw.specs.declared.priority.Priority.TheVariants.{Level6}
use Rattle.p11_words.specs.DueTurns.{is_due}
use Rattle.p11_unibus.specs.Kept.Due.{comes_before, nearest_but_clock}
use Rattle.p11_unibus.specs.State.{BusState}

-- whether the clock alone acts in a turn, and its tick interrupts a processor of a priority
unfoldable pub ticks_through : ℕ → Priority → BusState → Bool
ticks_through turn priority b =
    ((b.clock.enable && is_due turn b.clock.due) && comes_before turn (nearest_but_clock b.line b.disk))
    && nat_lt (priority_number priority) (priority_number Level6)
