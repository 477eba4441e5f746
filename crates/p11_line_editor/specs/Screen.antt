-- What the screen gets.
use Rattle.std.specs.Prelude.{ℕ, ◌+◌, ◌-◌, ◌/◌, nat_lt, min, max, List, [], ◌∷◌, ◌++◌, length, take, drop, codes, if◌then◌else◌}
use Rattle.p11_line_editor.specs.Line.{Line}
use Rattle.p11_line_editor.specs.declared.editor.Editor.{Editor}
use Rattle.p11_line_editor.specs.declared.outcome.Outcome.{Outcome}
use Rattle.p11_line_editor.specs.declared.outcome.Outcome.TheVariants.{Typed, Changed, Bell, Cleared}

-- columns that a picture has: 10 to 500
abbrev pub width : ℕ → ℕ
width columns = min (max columns 10) 500

-- the prompt has half of the columns at most
abbrev pub prompt_part : List ℕ → ℕ → List ℕ
prompt_part prompt columns = take (width columns / 2) prompt

-- characters of the line that show at most: the last column stays free
abbrev pub room : List ℕ → ℕ → ℕ
room prompt columns = width columns - 1 - length (prompt_part prompt columns)

-- the first character that shows: the cursor is in sight
abbrev pub first_shown : ℕ → ℕ → ℕ
first_shown room cursor = cursor + 1 - room

-- the characters that show
abbrev pub shown_part : ℕ → Line → List ℕ
shown_part room line = take room (drop (first_shown room line.cursor) line.text)

-- those of them before the cursor
abbrev pub front_part : ℕ → Line → List ℕ
front_part room line = take (line.cursor - first_shown room line.cursor) (drop (first_shown room line.cursor) line.text)

-- the row is written anew, and once more up to the cursor; ESC [ K erases what is behind it
abbrev pub drawn : List ℕ → List ℕ → List ℕ → List ℕ
drawn prompt shown front = 13 ∷ (prompt ++ shown ++ (27 ∷ 91 ∷ 75 ∷ 13 ∷ (prompt ++ front)))

abbrev pub picture_of_line : List ℕ → ℕ → Line → List ℕ
picture_of_line prompt columns line =
    drawn (prompt_part prompt columns) (shown_part (room prompt columns) line) (front_part (room prompt columns) line)

-- what the screen gets after an outcome
unfoldable pub picture : Outcome → List ℕ → ℕ → Line → List ℕ
picture (Typed byte) prompt columns line =
    if nat_lt (length line.text) (room prompt columns) then byte ∷ [] else picture_of_line prompt columns line
picture Changed prompt columns line = picture_of_line prompt columns line
picture Bell prompt columns line = 7 ∷ []
picture Cleared prompt columns line = 27 ∷ 91 ∷ 72 ∷ 27 ∷ 91 ∷ 50 ∷ 74 ∷ picture_of_line prompt columns line
picture other prompt columns line = []

-- in a search the prompt says what is looked for, its first 250 characters
abbrev pub prompt_of : Editor → List ℕ → List ℕ
prompt_of editor prompt = if editor.is_searching then codes "search " ++ take 250 editor.part ++ codes ": " else prompt
