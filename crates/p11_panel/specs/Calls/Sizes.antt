-- The sizes of a machine.
use Rattle.std.specs.Prelude.{ℕ, ◌%◌, Bool, ◌&&◌, nat_le, ◌==◌, if◌then◌else◌, Result, Ok, Err}
use Rattle.p11_lines.specs.declared.fault.Fault.{Fault}
use Rattle.p11_lines.specs.declared.fault.Fault.TheVariants.{BadSize}

-- thousands (1,024) of words of memory, and how many decoded words may be kept
pub record Sizes : Type 0 where
  pub kwords : ℕ
  pub lines : ℕ

-- memory is 4 to 124 thousand words, in steps of 4; decoded words are 4,096 at most
unfoldable pub is_size : ℕ → ℕ → Bool
is_size kwords lines = nat_le 4 kwords && (nat_le kwords 124 && (kwords % 4 == 0 && nat_le lines 4096))

unfoldable pub sizes_of : ℕ → ℕ → Result Sizes Fault
sizes_of kwords lines = if is_size kwords lines then Ok (record { kwords = kwords; lines = lines }) else Err BadSize
