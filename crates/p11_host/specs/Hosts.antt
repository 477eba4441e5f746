-- What the host of a dialogue decides.
use Rattle.std.specs.Prelude.{ℕ, Bool, true, ◌&&◌, ◌||◌, nat_le, List, [], ◌∷◌, length, Option, None, Some, bit_and, bit_or, if◌then◌else◌}
use Rattle.p11_host.specs.declared.ended.Course.{Course}
use Rattle.p11_host.specs.declared.ended.End.{End}
use Rattle.p11_host.specs.declared.ended.End.TheVariants.{ReadFault, WriteFault, Status}

-- by a fault of a read, or of a write; with status 1 if the record lacks something or the dialogue was cut off; else with this one
abbrev pub end_of : Course → ℕ → End
end_of course status =
    if course.has_read_fault then ReadFault else (if course.has_write_fault then WriteFault else
    (if course.is_torn || course.is_cut_off then Status 1 else Status status))

-- a printing byte
abbrev pub is_plain : ℕ → Bool
is_plain byte = nat_le 0o40 byte && nat_le byte 0o176

unfoldable pub all_plain : List ℕ → Bool
all_plain [] = true
all_plain (byte ∷ bytes) = is_plain byte && all_plain bytes

-- a line that keys can give
abbrev pub is_typed : List ℕ → Bool
is_typed line = nat_le 1 (length line) && (nat_le (length line) 4096 && all_plain line)

-- the permission bits of an image, which its owner may read and write; without one just that
abbrev pub rescue_mode : Option ℕ → ℕ
rescue_mode None = 0o600
rescue_mode (Some mode) = bit_or (bit_and mode 0o777) 0o600
