-- The keys that bytes are. An escape sequence is ESC [ or ESC O with what follows up to its last byte, 100 to 176; a message
-- for the terminal goes up to BEL or another control character. Any other byte inside ends it, and stands for itself.
use Rattle.std.specs.Prelude.{ℕ, ◌-◌, Bool, ◌&&◌, ◌||◌, nat_lt, nat_le, nat_eq, Option, Some, None, if◌then◌else◌}
use Rattle.p11_line_editor.specs.Keys.{plain_key, letter_key, number_key}
use Rattle.p11_line_editor.specs.declared.key.Key.{Key}
use Rattle.p11_line_editor.specs.declared.key.Key.TheVariants.{Refused}
use Rattle.p11_line_editor.specs.declared.decoder.DecoderPhase.{DecoderPhase}
use Rattle.p11_line_editor.specs.declared.decoder.DecoderPhase.TheVariants.{Start, Escape, Lone, Application, Sequence, Longer, Message, Character}

-- the phase behind a byte, and the key that the byte ends
abbrev pub Step : Type 0
Step = DecoderPhase × Option Key

abbrev pub within : ℕ → ℕ → ℕ → Bool
within low high byte = nat_le low byte && nat_le byte high

-- a byte where no sequence has begun; the first byte of a character that isn't ASCII is refused at once
abbrev pub first_of : ℕ → Step
first_of byte =
    if nat_eq byte 0o33 then (Escape, None) else (
    if within 0o302 0o337 byte then (Character 1, Some Refused) else (
    if within 0o340 0o357 byte then (Character 2, Some Refused) else (
    if within 0o360 0o364 byte then (Character 3, Some Refused) else
    (Start, Some (plain_key byte)))))

-- behind ESC: [ is 133, O is 117; P, X, ], ^ and _ begin a message
abbrev pub behind_escape : ℕ → Step
behind_escape byte =
    if nat_eq byte 0o133 then (Sequence 0, None) else (
    if nat_eq byte 0o117 then (Application, None) else (
    if nat_eq byte 0o120 || nat_eq byte 0o130 || nat_eq byte 0o135 || nat_eq byte 0o136 || nat_eq byte 0o137 then (Message, None) else (
    if within 0o40 0o57 byte then (Longer, None) else (
    if within 0o60 0o176 byte then (Start, None) else first_of byte))))

-- behind an ESC that stood alone, the rest of a sequence that was cut, or another key
abbrev pub behind_lone : ℕ → Step
behind_lone byte = if nat_eq byte 0o133 || nat_eq byte 0o117 then behind_escape byte else first_of byte

abbrev pub in_application : ℕ → Step
in_application byte =
    if within 0o60 0o77 byte then (Application, None) else (
    if within 0o40 0o176 byte then (Start, letter_key byte) else first_of byte)

-- in a sequence that means no key
abbrev pub in_longer : ℕ → Step
in_longer byte =
    if within 0o40 0o77 byte then (Longer, None) else (
    if within 0o100 0o176 byte then (Start, None) else first_of byte)

-- behind ESC [ and a digit, or 0 if there is none yet; the digits 1 to 9 are 61 to 71, and ~ is 176
abbrev pub in_sequence : ℕ → ℕ → Step
in_sequence digit byte =
    if nat_eq digit 0 && nat_eq byte 0o133 then (Longer, None) else (
    if nat_eq digit 0 && nat_le 0o61 byte && nat_le byte 0o71 then (Sequence (byte - 48), None) else (
    if nat_eq byte 0o176 then (Start, number_key digit) else (
    if nat_eq digit 0 && nat_le 0o100 byte && nat_le byte 0o176 then (Start, letter_key byte) else in_longer byte)))

abbrev pub in_message : ℕ → Step
in_message byte =
    if nat_eq byte 0o7 then (Start, None) else (if nat_lt byte 0o40 then first_of byte else (Message, None))

-- in a character that isn't ASCII, with so many bytes left
abbrev pub in_character : ℕ → ℕ → Step
in_character left byte =
    if nat_lt byte 0o200 || nat_lt 0o277 byte then first_of byte else (
    if nat_le left 1 then (Start, None) else (Character (left - 1), None))

-- what a byte is behind the bytes before it
unfoldable pub decoded : DecoderPhase → ℕ → Step
decoded Start byte = first_of byte
decoded Escape byte = behind_escape byte
decoded Lone byte = behind_lone byte
decoded Application byte = in_application byte
decoded (Sequence digit) byte = in_sequence digit byte
decoded Longer byte = in_longer byte
decoded Message byte = in_message byte
decoded (Character left) byte = in_character left byte

-- the keyboard has nothing more for now
abbrev pub paused : DecoderPhase → DecoderPhase
paused Escape = Lone
paused phase = phase
