-- What was written.
use Rattle.std.specs.Prelude.{ℕ, nat_lt, Bool, false, Result, Ok, Err, List, [], ◌++◌, ◌≡◌, OnOk, OnErr}
use Rattle.p11_lines.specs.Writers.{WriterState, Writes}
use Rattle.p11_lines.specs.Written.{AppendsFront}
use Rattle.p11_lines.specs.declared.output.Broken.{Broken}

abbrev pub took_some : {E : Type 0} → Result ℕ E → Bool
took_some (Ok n) = nat_lt 0 n
took_some (Err e) = false

-- a front of the text is written; the rest of it is left
pub record Wrote (old new : WriterState) (text rest : List ℕ) : Type 0 where
  pub front : List ℕ
  pub written : Writes old new front []
  pub split : text ≡ front ++ rest

-- What putting a text leaves of the writer and of the bytes that are kept for it, which come before the text.
-- Done, a front of all that is written and the rest of it kept; broken, a front of it is written that isn't all.
pub record Puts (old : WriterState) (kept text : List ℕ) (new : WriterState) (now_kept : List ℕ)
    (result : Result (Unit {0}) Broken) : Type 0 where
  pub done : OnOk result (Wrote old new (kept ++ text) now_kept)
  pub broken : OnErr result (AppendsFront old new (kept ++ text))
