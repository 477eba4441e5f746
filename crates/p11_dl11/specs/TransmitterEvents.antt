-- What happens to the transmitter.
use Rattle.std.specs.Prelude.{ℕ, ◌+◌, Bool, false, ◌||◌, Option, Some, None, option_map, if◌then◌else◌}
use Rattle.p11_dl11.specs.declared.transmitter.Sending.{Sending}
use Rattle.p11_dl11.specs.ReceiverEvents.{character_turns}
use Rattle.p11_dl11.specs.StatusRegister.{request_after_enable}
use Rattle.p11_dl11.specs.TransmitterState.{TransmitterState, is_ready}
use Rattle.p11_words.specs.DueTurns.{is_due}

-- a new machine's transmitter, and the state after INIT: ready, disabled, no request, a character being sent forgotten
unfoldable pub new_transmitter : TransmitterState
new_transmitter = record { enable = false; request = false; sending = None }

-- a write of the transmitter status register with this enable
unfoldable pub transmitter_after_enable : Bool → TransmitterState → TransmitterState
transmitter_after_enable enable t =
    record t { enable = enable; request = request_after_enable t.request t.enable (is_ready t) enable }

-- what is being sent after a write of the buffer: while ready the character is typed a character's turns later, and
-- else it takes the place of the one that is being sent, whose turn stays
abbrev pub sending_after : Option Sending → ℕ → ℕ → Sending
sending_after None turn character = record { character = character; due = turn + character_turns }
sending_after (Some s) turn character = record { character = character; due = s.due }

-- a write of the transmitter buffer in this turn
unfoldable pub transmitter_after_character : ℕ → ℕ → TransmitterState → TransmitterState
transmitter_after_character turn character t = record t { sending = Some (sending_after t.sending turn character) }

-- the turn in which a character is typed if nothing else happens
unfoldable pub transmitter_due : TransmitterState → Option ℕ
transmitter_due t = option_map (λ sent. sent.due) t.sending

-- the character that is typed in this turn, if one is due in it
unfoldable pub typed_in : ℕ → TransmitterState → Option ℕ
typed_in turn t = if is_due turn (transmitter_due t) then option_map (λ sent. sent.character) t.sending else None

-- the transmitter in this turn: once a character is typed it is ready, and requests an interrupt where enabled
unfoldable pub transmitter_after_turn : ℕ → TransmitterState → TransmitterState
transmitter_after_turn turn t =
    if is_due turn (transmitter_due t) then record t { request = t.request || t.enable; sending = None } else t
