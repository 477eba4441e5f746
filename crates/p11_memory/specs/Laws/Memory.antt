-- What every memory is.
use Rattle.std.specs.Prelude.{ℕ, ◌*◌, ◌<◌, ◌≤◌, length, All}
use Rattle.p11_memory.specs.Memory.{Words}

-- the first bus address of the I/O page, where memory ends at the latest
abbrev pub io_page : ℕ
io_page = 0o760000

-- what every memory is: words of 16 bits, which end before the I/O page
pub record IsMemory (memory : Words) : Type 0 where
  pub words : All (λ word. word < 0o200000) memory
  pub end : 2 * length memory ≤ io_page
