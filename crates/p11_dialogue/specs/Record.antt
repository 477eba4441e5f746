-- The texts of the record: lines of the console's language that do the same again.
use Rattle.std.specs.Prelude.{ℕ, List, [], ◌∷◌, ◌++◌, ◌==◌, if◌then◌else◌, codes}
use Rattle.p11_lines.specs.declared.answer.Answer.{Answer}
use Rattle.p11_lines.specs.declared.answer.Answer.TheVariants as answers
use Rattle.p11_lines.specs.declared.line.Line.{Line}
use Rattle.p11_lines.specs.declared.line.Line.TheVariants as lines
use Rattle.p11_lines.specs.Calls.LineText.{line_text}

-- a line of the record, with its end
unfoldable pub ended : {A : Type 0} → Line A → List ℕ
ended line = line_text line ++ 10 ∷ []

-- a run by the turns that were made, and nothing where there were none
unfoldable pub run_text : Type 0 → ℕ → List ℕ
run_text A turns = if turns == 0 then [] else line_text {A = A} (lines.Step turns) ++ 10 ∷ []

-- keys that are pressed behind so many turns
unfoldable pub keys_text : Type 0 → ℕ → List ℕ → List ℕ
keys_text A turns keys = run_text A turns ++ ended {A = A} (lines.Key keys)

-- a tick of the line clock behind so many turns
unfoldable pub tick_text : Type 0 → ℕ → List ℕ
tick_text A turns = run_text A turns ++ codes "tick\n"

-- a line that was refused isn't recorded
unfoldable pub recorded : {A : Type 0} → List ℕ → Answer A → List ℕ
recorded text (answers.Refused fault) = []
recorded text _ = text
