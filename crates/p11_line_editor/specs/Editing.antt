-- What each key does.
use Rattle.std.specs.Prelude.{ℕ, ◌+◌, ◌-◌, Bool, true, false, nat_le, nat_eq, min, List, [], ◌∷◌, ◌++◌, length, take, slice_get, slice_range}
use Rattle.std.specs.Prelude.{Option, Some, None, if◌then◌else◌}
use Rattle.p11_line_editor.specs.Line.{Line, replaced, moved, last_word_start}
use Rattle.p11_line_editor.specs.History.{found_from}
use Rattle.p11_line_editor.specs.Telling.{told, told_of}
use Rattle.p11_line_editor.specs.declared.editor.Editor.{Editor}
use Rattle.p11_line_editor.specs.declared.key.Key.{Key}
use Rattle.p11_line_editor.specs.declared.key.Key.TheVariants as key
use Rattle.p11_line_editor.specs.declared.outcome.Outcome.{Outcome}
use Rattle.p11_line_editor.specs.declared.outcome.Outcome.TheVariants.{Changed, Bell, Cleared, Complete, Done, Interrupted, Ended}

-- the editor behind a key, and what the caller has to do
abbrev pub Step : Type 0
Step = Editor × Outcome

-- ---- the line

abbrev pub empty_line : Line
empty_line = record { text = []; cursor = 0 }

-- a change of the line, if there was room for it
abbrev pub edited : Line × Bool → Editor → Step
edited change editor = (record editor { line = change.0 }, told change.1)

-- a character in the line, if there was room for it
abbrev pub insertion : ℕ → Line × Bool → Editor → Step
insertion byte change editor =
    (record editor { line = change.0 }, told_of byte (nat_eq editor.line.cursor (length editor.line.text)) change.1)

-- bytes come in at the cursor
abbrev pub put : List ℕ → Editor → Step
put bytes editor = edited (replaced editor.line.cursor editor.line.cursor bytes editor.line) editor

-- the text between two places goes
abbrev pub taken : ℕ → ℕ → Editor → Step
taken from to editor = edited (replaced from to [] editor.line) editor

-- the text between two places goes, and is kept for `Yank`; if there is any
abbrev pub cut_away : ℕ → ℕ → Editor → Step
cut_away from to editor =
    if nat_eq from to then (editor, Bell) else
    (record editor { line = (replaced from to [] editor.line).0; cut = slice_range editor.line.text from to }, Changed)

-- the cursor is elsewhere
abbrev pub at_place : ℕ → Editor → Step
at_place place editor = (record editor { line = moved place editor.line }, Changed)

-- a character comes in at the cursor
abbrev pub character : ℕ → Editor → Step
character byte editor = insertion byte (replaced editor.line.cursor editor.line.cursor (byte ∷ []) editor.line) editor

abbrev pub delete : Editor → Step
delete editor = taken editor.line.cursor (min (editor.line.cursor + 1) (length editor.line.text)) editor

abbrev pub end_of_input : Editor → Step
end_of_input editor = if nat_eq (length editor.line.text) 0 then (editor, Ended) else delete editor

-- ---- the history

-- the line that was typed, which is kept while one of the history stands in its place
abbrev pub draft_of : Editor → List ℕ
draft_of editor = if nat_eq editor.back 0 then editor.line.text else editor.draft

-- a text stands in the line, which is so many lines back, with the cursor at its end
unfoldable pub shown : List ℕ → ℕ → Editor → Step
shown text back editor =
    if nat_le (length text) 4096
    then (record editor { line = record { text = text; cursor = length text }; back = back; draft = draft_of editor }, Changed)
    else (editor, Bell)

-- a text of the history stands in the line, if there is one
abbrev pub recalled : Option (List ℕ) → ℕ → Editor → Step
recalled None back editor = (editor, Bell)
recalled (Some text) back editor = shown text back editor

-- the text below the one that stands in the line
abbrev pub below : List (List ℕ) → Editor → Option (List ℕ)
below lines editor =
    if nat_eq editor.back 0 then None else (if nat_eq editor.back 1 then Some editor.draft else slice_get lines (editor.back - 2))

-- a line of the history that has what is looked for stands in the line, if one was found
abbrev pub found : List ℕ → Option ℕ → List (List ℕ) → Editor → Step
found part None lines editor = (editor, Bell)
found part (Some back) lines editor = recalled (slice_get lines back) (back + 1) (record editor { part = part })

-- one character more is looked for: the line that stands there may have it, or one before that
abbrev pub looked_for : ℕ → List (List ℕ) → Editor → Step
looked_for byte lines editor =
    if nat_le (length (editor.part ++ byte ∷ [])) 4096
    then found (editor.part ++ byte ∷ []) (found_from (editor.part ++ byte ∷ []) (editor.back - 1) lines) lines editor
    else (editor, Bell)

-- the search is left, and the line that was typed stands there again
abbrev pub left : Editor → Step
left editor =
    if nat_eq editor.back 0 then (record editor { is_searching = false }, Changed)
    else shown editor.draft 0 (record editor { is_searching = false })

-- ---- keys

-- a key where nothing is looked for
unfoldable pub typed : Key → List (List ℕ) → Editor → Step
typed (key.Character byte) lines editor = character byte editor
typed key.Left lines editor = at_place (editor.line.cursor - 1) editor
typed key.Right lines editor = at_place (min (editor.line.cursor + 1) (length editor.line.text)) editor
typed key.Home lines editor = at_place 0 editor
typed key.End lines editor = at_place (length editor.line.text) editor
typed key.Up lines editor = recalled (slice_get lines editor.back) (editor.back + 1) editor
typed key.Down lines editor = recalled (below lines editor) (editor.back - 1) editor
typed key.Back lines editor = taken (editor.line.cursor - 1) editor.line.cursor editor
typed key.Delete lines editor = delete editor
typed key.CutEnd lines editor = cut_away editor.line.cursor (length editor.line.text) editor
typed key.CutFront lines editor = cut_away 0 editor.line.cursor editor
typed key.CutWord lines editor = cut_away (last_word_start editor.line.text editor.line.cursor) editor.line.cursor editor
typed key.Yank lines editor = put editor.cut editor
typed key.Screen lines editor = (editor, Cleared)
typed key.Search lines editor = (record editor { is_searching = true; part = [] }, Changed)
typed key.Leave lines editor = (editor, Bell)
typed key.Tab lines editor = (editor, Complete)
typed key.Enter lines editor = (editor, Done)
typed key.Interrupt lines editor = (record editor { line = empty_line; back = 0 }, Interrupted)
typed key.EndOfInput lines editor = end_of_input editor
typed key.Refused lines editor = (editor, Bell)

-- A key in a search: characters are looked for, the same key again looks further back, and any other key leaves the search
-- and does what it does.
unfoldable pub searched : Key → List (List ℕ) → Editor → Step
searched (key.Character byte) lines editor = looked_for byte lines editor
searched key.Back lines editor = (record editor { part = take (length editor.part - 1) editor.part }, Changed)
searched key.Search lines editor = found editor.part (found_from editor.part editor.back lines) lines editor
searched key.Leave lines editor = left editor
searched other lines editor = typed other lines (record editor { is_searching = false })

-- a key, with these lines in the history, the newest first
unfoldable pub pressed : Key → List (List ℕ) → Editor → Step
pressed key lines editor = if editor.is_searching then searched key lines editor else typed key lines editor

-- a new line: what was cut stays
abbrev pub begun : Editor → Editor
begun editor = record editor { line = empty_line; back = 0; is_searching = false }
