-- The sizes that a command line asks for: `p11 [--memory K] [--lines N] SCRIPT`.
use Rattle.std.specs.Prelude.{◌≡◌, ℕ, List, Option, unwrap_or, codes, Ok}
use Rattle.clap.specs.Words.{Row}
use Rattle.p11_arguments.specs.CommandLine.{number_in}
use Rattle.p11_panel.specs.Calls.Sizes.{Sizes, sizes_of}

-- thousands of words and decoded words, 28 and 1,024 where they aren't given
abbrev pub AsksFor : Option ℕ → Option ℕ → Sizes → Type 0
AsksFor memory lines sizes = sizes_of (unwrap_or memory 28) (unwrap_or lines 1024) ≡ Ok sizes

-- the sizes that the words ask for
abbrev pub SizesIn : List Row → Sizes → Type 0
SizesIn rows sizes = AsksFor (number_in (codes "memory") rows) (number_in (codes "lines") rows) sizes
