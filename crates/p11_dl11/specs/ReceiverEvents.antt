-- What happens to the receiver.
use Rattle.std.specs.Prelude.{ℕ, ◌+◌, ◌-◌, Bool, true, false, ◌&&◌, ◌||◌, not, List, [], ◌∷◌, length, Option, Some, None, if◌then◌else◌, nat_le, max}
use Rattle.p11_dl11.specs.ReceiverState.{ReceiverState}
use Rattle.p11_dl11.specs.StatusRegister.{request_after_enable}

-- so many keys may wait
abbrev pub most_keys : ℕ
most_keys = 64

-- a character takes so many turns on the line
abbrev pub character_turns : ℕ
character_turns = 64

-- a new machine's receiver: no key waits, and the first may be taken in any turn
unfoldable pub new_receiver : ReceiverState
new_receiver = record { done = false; enable = false; request = false; character = 0; keys = []; next_turn = 0 }

-- INIT clears done, enable, the request and the buffer; the waiting keys and the next turn stay
unfoldable pub receiver_after_init : ReceiverState → ReceiverState
receiver_after_init r = record r { done = false; enable = false; request = false; character = 0 }

-- a write of the receiver status register with this enable
unfoldable pub receiver_after_enable : Bool → ReceiverState → ReceiverState
receiver_after_enable enable r =
    record r { enable = enable; request = request_after_enable r.request r.enable r.done enable }

-- The receiver takes the first key that waits, if any: it goes into the buffer, done is set, an interrupt is
-- requested where enabled, and no other key is taken until it had its turns on the line.
abbrev pub receiver_after_taking : List ℕ → ℕ → ReceiverState → ReceiverState
receiver_after_taking [] turn r = r
receiver_after_taking (key ∷ others) turn r =
    record r {
      done = true;
      request = r.request || r.enable;
      character = key;
      keys = others;
      next_turn = turn + character_turns;
    }

-- the receiver in this turn: it takes a key where done is 0 and its next turn has come
unfoldable pub receiver_after_turn : ℕ → ReceiverState → ReceiverState
receiver_after_turn turn r =
    if not r.done && nat_le r.next_turn turn then receiver_after_taking r.keys turn r else r

-- something waits
abbrev pub is_waiting : List ℕ → Bool
is_waiting [] = false
is_waiting (key ∷ others) = true

-- Between this turn and the one after it: the turn in which the receiver next takes a key if nothing else happens,
-- and none where no key waits or done is 1.
unfoldable pub receiver_due : ℕ → ReceiverState → Option ℕ
receiver_due turn r = if is_waiting r.keys && not r.done then Some (max (turn + 1) r.next_turn) else None

-- how many more keys may wait
abbrev pub receiver_room : ReceiverState → ℕ
receiver_room r = most_keys - length r.keys
