-- Words of memory at addresses that follow one another.
use Rattle.std.specs.Prelude.{ℕ, ◌/◌, ◌++◌, List, length, take, drop}
use Rattle.p11_memory.specs.Memory.{Words}

-- n words from an address on
abbrev pub run_at : Words → ℕ → ℕ → List ℕ
run_at words address n = take n (drop (address / 2) words)

-- memory after words were stored from an address on
abbrev pub with_run : Words → ℕ → List ℕ → Words
with_run words address run =
    take (address / 2) words ++ (run ++ drop (length run) (drop (address / 2) words))
