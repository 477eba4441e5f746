-- In which turns the receiver takes a key.
use Rattle.std.specs.Prelude.{ℕ, Bool, ◌&&◌, not, Option, Some, None, if◌then◌else◌, nat_le}
use Rattle.p11_dl11.specs.ReceiverEvents.{is_waiting}
use Rattle.p11_dl11.specs.ReceiverState.{ReceiverState}

-- whether it takes one in a turn: a key waits, done is 0, and its next turn has come
unfoldable pub takes_in : ℕ → ReceiverState → Bool
takes_in turn r = (is_waiting r.keys && not r.done) && nat_le r.next_turn turn

-- the turn from which it takes one, which may have passed, and none where no key waits or done is 1
unfoldable pub takes_from : ReceiverState → Option ℕ
takes_from r = if is_waiting r.keys && not r.done then Some r.next_turn else None
