-- The memory address of a transfer: 18 bits, of which RKCS 5:4 are 17:16 and RKBA is 15:0. Bit 0 is 0.
use Rattle.std.specs.Prelude.{ℕ, ◌+◌, ◌*◌, ◌%◌, Bool, if◌then◌else◌}

-- the address of word k of a sector: k words on modulo 2^18, and with inhibit increment always that of the first word
unfoldable pub word_address : ℕ → Bool → ℕ → ℕ
word_address address inhibited k = if inhibited then address else (address + 2 * k) % 0o1000000
