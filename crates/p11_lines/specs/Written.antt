-- What a writer holds once a text was written to it, or a part of the text.
use Rattle.std.specs.Prelude.{ℕ, ◌<◌, false, List, [], ◌∷◌, ◌++◌, length, ◌≡◌}
use Rattle.p11_lines.specs.Writers.{WriterState, Writes}

-- a front of the text is written, and not all of it: the last write failed or took nothing, and no other did
pub record AppendsFront (old new : WriterState) (text : List ℕ) : Type 0 where
  pub front : List ℕ
  pub back : List ℕ
  pub written : Writes old new front (false ∷ [])
  pub split : text ≡ front ++ back
  pub unwritten : 0 < length back
