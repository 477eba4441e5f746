-- A console line is due in later turns alone, once it has acted in a turn.
use Rattle.std.proofs.Common.{rules, ℕ, ◌∷◌, [], arith}
use Rattle.std.proofs.lemmas.Grind.{common_steps}
use Rattle.p11_dl11.specs.Laws.DueTurns.{IsBefore, IsNotAfter}
use Rattle.p11_dl11.specs.LineState.{LineState}
use Rattle.p11_dl11.specs.LineEvents.{line_after_turn}
use Rattle.p11_dl11.specs.ReceiverEvents.{receiver_after_turn, receiver_due}
use Rattle.p11_dl11.specs.TransmitterEvents.{transmitter_after_turn, transmitter_due}
use Rattle.p11_words.specs.DueTurns.{is_due}
use Rattle.p11_unibus.specs.Kept.Devices.{AfterNone, BeforeEach}

receiver_later : (turn : ℕ) (l : LineState) → IsBefore turn (receiver_due turn (line_after_turn turn l).receiver)
unfolding line_after_turn receiver_after_turn receiver_due
receiver_later turn l = first_of (search rules, grind (arith, common_steps))

transmitter_later : (turn : ℕ) (l : LineState) → IsNotAfter turn (transmitter_due l.transmitter) →
    IsBefore turn (transmitter_due (line_after_turn turn l).transmitter)
unfolding line_after_turn transmitter_after_turn transmitter_due is_due
transmitter_later turn l was = first_of (search rules, grind (arith, common_steps))

pub line_is_due_later : (asked turn : ℕ) (l : LineState) →
    AfterNone turn (receiver_due asked l.receiver ∷ transmitter_due l.transmitter ∷ []) →
    BeforeEach turn
    (receiver_due turn (line_after_turn turn l).receiver ∷ transmitter_due (line_after_turn turn l).transmitter ∷ [])
line_is_due_later asked turn l was = (receiver_later turn l, (transmitter_later turn l was.1.0, tt))
