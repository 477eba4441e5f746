-- What a terminal of seven or eight bits makes of the machine's bytes, and of its keys.
use Rattle.std.specs.Prelude.{ℕ, ◌%◌, Bool, true, nat_lt}
use Rattle.p11_shown.specs.declared.bits.Bits.{Bits}
use Rattle.p11_shown.specs.declared.bits.Bits.TheVariants.{Seven, Eight}

-- a byte that the machine has typed: with seven bits without its parity
abbrev pub without_parity : Bits → ℕ → ℕ
without_parity Seven byte = byte % 128
without_parity Eight byte = byte

-- a byte that a key of such a terminal sends
abbrev pub is_sent : Bits → ℕ → Bool
is_sent Seven byte = nat_lt byte 128
is_sent Eight byte = true
