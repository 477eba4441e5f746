-- The places that a word names: an address, a register, or those from one to another.
use Rattle.std.specs.Prelude.{ℕ, ◌+◌, nat_eq, List, length, take, drop, position, Option, Some, None, option_map, if◌then◌else◌}
use Rattle.p11_phrases.specs.Words.{address_of}
use Rattle.p11_phrases.specs.Registers.{register_named, is_register_address, register_at}
use Rattle.p11_phrases.specs.declared.span.Location.{Location}
use Rattle.p11_phrases.specs.declared.span.Location.TheVariants.{Word, Register, Missing}
use Rattle.p11_phrases.specs.declared.span.Span.{Span}
use Rattle.p11_phrases.specs.declared.span.Span.TheVariants.{One, Range}

abbrev pub register_or_missing : Option ℕ → Location
register_or_missing (Some number) = Register number
register_or_missing None = Missing

-- an address is a register's, from 777700 to 777717, or of the bus
abbrev pub location_at : ℕ → Location
location_at address = if is_register_address address then register_or_missing (register_at address) else Word address

abbrev pub named_or_at : Option ℕ → Option ℕ → Option Location
named_or_at (Some number) address = Some (Register number)
named_or_at None (Some address) = Some (location_at address)
named_or_at None None = None

-- a register's name, or an address
unfoldable pub location_of : (A : Type 0) → List ℕ → Option Location
location_of A word = named_or_at (register_named word) (address_of A word)

abbrev pub range_of : Option Location → Option Location → Option Span
range_of (Some first) (Some last) = Some (Range first last)
range_of (Some first) None = None
range_of None last = None

-- with a hyphen (055) in it, a word is a range
abbrev pub span_by : (A : Type 0) → List ℕ → Option ℕ → Option Span
span_by A word None = option_map One (location_of A word)
span_by A word (Some hyphen) = range_of (location_of A (take hyphen word)) (location_of A (drop (hyphen + 1) word))

unfoldable pub span_of : (A : Type 0) → List ℕ → Option Span
span_of A word = span_by A word (position (λ byte. nat_eq byte 0o55) word)
