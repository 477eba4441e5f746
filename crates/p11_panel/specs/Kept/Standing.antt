-- Where a session stands between two bytes of its script.
use Rattle.std.specs.Prelude.{◌≡◌, ℕ, List, Option}
use Rattle.p11_lines.specs.declared.answer.Answer.{Answer}
use Rattle.p11_lines.specs.Writers.{WriterState}
use Rattle.p11_panel.specs.Kept.Buffer.{kept}
use Rattle.p11_panel.specs.Kept.Pieces.{cut_at_lf}
use Rattle.p11_panel.specs.Script.{ended_lines}
use Rattle.p11_panel.specs.Session.{ScriptDone}

-- of what was read, the lines that LF ended are done, and the bytes after them are kept
pub record Stands {S A : Type 0} (Does : List ℕ → S → Option (Answer A) → S → Type 0) (read : List ℕ)
    (s : S) (old : WriterState) (s' : S) (new : WriterState) (count : ℕ) (buffer : Option (List ℕ))
    : Type 0 where
  pub done : ScriptDone Does (ended_lines read) s old s' new count
  pub buffer_is : buffer ≡ kept (cut_at_lf read).last
