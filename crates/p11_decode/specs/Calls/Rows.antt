-- The rows of the table that are left to try, by what a word is known to be.
use Rattle.std.specs.Prelude.{ℕ, List, drop, filter, bit_and, ◌==◌}
use Rattle.p11_decode.specs.Table.{Row, table}

-- the rows whose bits 14 to 12 are these
abbrev pub with_digit : ℕ → List Row
with_digit digit = filter (λ r. bit_and r.value 0o070000 == digit) table

-- Where they are 0, the rows from a format on, which are all that is left for a word that no row before them fits.

abbrev pub from_single : List Row
from_single = drop 12 (with_digit 0)

abbrev pub from_call : List Row
from_call = drop 18 (with_digit 0)

abbrev pub from_branch : List Row
from_branch = drop 19 (with_digit 0)

abbrev pub from_return : List Row
from_return = drop 34 (with_digit 0)

abbrev pub from_trap : List Row
from_trap = drop 35 (with_digit 0)

abbrev pub from_operate : List Row
from_operate = drop 37 (with_digit 0)

abbrev pub from_codes : List Row
from_codes = drop 44 (with_digit 0)
