-- What completes a word.
use Rattle.std.specs.Prelude.{ℕ, nat_eq, List, [], ◌∷◌, length, drop, fold, slice_range, if◌then◌else◌}
use Rattle.p11_line_editor.specs.Line.{Line, word_start}
use Rattle.p11_line_editor.specs.Editing.{Step, put}
use Rattle.p11_line_editor.specs.declared.editor.Editor.{Editor}
use Rattle.p11_line_editor.specs.declared.outcome.Outcome.TheVariants.{Bell, List as listed}

-- the front that two texts have in common
abbrev pub common_front : List ℕ → List ℕ → List ℕ
common_front [] other = []
common_front (byte ∷ one) [] = []
common_front (byte ∷ one) (next ∷ other) = if nat_eq byte next then byte ∷ common_front one other else []

-- the front that all have in common
abbrev pub common : List ℕ → List (List ℕ) → List ℕ
common first others = fold common_front first others

-- the word that ends at the cursor
abbrev pub word_of : Line → List ℕ
word_of line = slice_range line.text (word_start line.text line.cursor) line.cursor

-- what the candidates have in common comes in beyond the word; with nothing beyond it they are to be listed
unfoldable pub completed_by : List ℕ → Editor → Step
completed_by shared editor =
    if nat_eq (length (drop (length (word_of editor.line)) shared)) 0 then (editor, listed)
    else put (drop (length (word_of editor.line)) shared) editor

abbrev pub completed : List (List ℕ) → Editor → Step
completed [] editor = (editor, Bell)
completed (first ∷ others) editor = completed_by (common first others) editor
