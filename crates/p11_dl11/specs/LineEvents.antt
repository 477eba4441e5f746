-- What happens to the console line, event by event.
use Rattle.std.specs.Prelude.{ℕ, ◌%◌, false, Result, Ok, Err, [], ◌∷◌, ◌++◌, length, if◌then◌else◌, nat_lt}
use Rattle.p11_dl11.specs.declared.line.KeysFull.{KeysFull}
use Rattle.p11_dl11.specs.declared.register.Register.{Register}
use Rattle.p11_dl11.specs.declared.register.Register.TheVariants.{ReceiverStatus, ReceiverBuffer, TransmitterStatus, TransmitterBuffer}
use Rattle.p11_dl11.specs.declared.register.Section.{Section}
use Rattle.p11_dl11.specs.declared.register.Section.TheVariants.{Receiver, Transmitter}
use Rattle.p11_dl11.specs.LineState.{LineState}
use Rattle.p11_dl11.specs.ReceiverEvents.{most_keys, new_receiver, receiver_after_init, receiver_after_enable, receiver_after_turn}
use Rattle.p11_dl11.specs.StatusRegister.{section_word}
use Rattle.p11_words.specs.Bits.{bit_of}
use Rattle.p11_dl11.specs.TransmitterState.{is_ready}
use Rattle.p11_dl11.specs.TransmitterEvents.{new_transmitter, transmitter_after_enable, transmitter_after_character, transmitter_after_turn}

-- a new machine's console line
unfoldable pub new_line : LineState
new_line = record { receiver = new_receiver; transmitter = new_transmitter }

-- INIT on the bus
unfoldable pub line_after_init : LineState → LineState
line_after_init l = record { receiver = receiver_after_init l.receiver; transmitter = new_transmitter }

-- A key is pressed, and waits behind the others. It is refused where as many keys wait as may.
unfoldable pub line_after_key : ℕ → LineState → LineState × Result (Unit {0}) KeysFull
line_after_key key l =
    if nat_lt (length l.receiver.keys) most_keys
    then (record l { receiver = record l.receiver { keys = l.receiver.keys ++ key ∷ [] } }, Ok tt)
    else (l, Err (record {}))

-- the word that a register shows
unfoldable pub line_word : Register → LineState → ℕ
line_word ReceiverStatus l = section_word l.receiver.done l.receiver.enable
line_word ReceiverBuffer l = l.receiver.character
line_word TransmitterStatus l = section_word (is_ready l.transmitter) l.transmitter.enable
line_word TransmitterBuffer l = 0

-- A program or the operator reads a register. The receiver buffer alone has a side effect: a read of it clears done and
-- drops the request.
unfoldable pub line_after_read : Register → LineState → LineState
line_after_read ReceiverBuffer l = record l { receiver = record l.receiver { done = false; request = false } }
line_after_read _ l = l

-- A word is written to a register in this turn. The receiver buffer can't be written.
unfoldable pub line_after_write : ℕ → Register → ℕ → LineState → LineState
line_after_write turn ReceiverStatus word l =
    record l { receiver = receiver_after_enable (bit_of word 0o100) l.receiver }
line_after_write turn ReceiverBuffer word l = l
line_after_write turn TransmitterStatus word l =
    record l { transmitter = transmitter_after_enable (bit_of word 0o100) l.transmitter }
line_after_write turn TransmitterBuffer word l =
    record l { transmitter = transmitter_after_character turn (word % 256) l.transmitter }

-- the line in this turn: the receiver acts, then the transmitter
unfoldable pub line_after_turn : ℕ → LineState → LineState
line_after_turn turn l =
    record { receiver = receiver_after_turn turn l.receiver; transmitter = transmitter_after_turn turn l.transmitter }

-- the processor serves the interrupt of a section, which drops its request
unfoldable pub line_after_service : Section → LineState → LineState
line_after_service Receiver l = record l { receiver = record l.receiver { request = false } }
line_after_service Transmitter l = record l { transmitter = record l.transmitter { request = false } }
