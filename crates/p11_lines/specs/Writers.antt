-- A writer, as far as contracts know it.
use Rattle.std.specs.Prelude.{◌≡◌, ℕ, Bool, true, List, ◌++◌, replicate, Option}
use Rattle.std.specs.Option.{option_map}
use Rattle.std.specs.Io.KnownBytes.{Appends}

-- The bytes that it holds, and for each of its writes whether it took some: no for one that failed, or took nothing.
-- Each where it is known.
pub record WriterState : Type 0 where
  pub bytes : Option (List ℕ)
  pub writes : Option (List Bool)

-- where calls are known, these are made after them
abbrev pub with_calls : {C : Type 0} → Option (List C) → List C → Option (List C)
with_calls known calls = option_map (λ earlier. earlier ++ calls) known

-- A text is written: by writes that each took some of it, and then such ones.
pub record Writes (old new : WriterState) (text : List ℕ) (last : List Bool) : Type 0 where
  pub bytes : Appends old.bytes new.bytes text
  pub count : ℕ
  pub writes : new.writes ≡ with_calls old.writes (replicate count true ++ last)
