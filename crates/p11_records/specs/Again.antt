-- A record does again what was done.
use Rattle.std.specs.Prelude.{◌≡◌, ◌↔◌, ℕ, ◌+◌, ◌<◌, ◌≤◌, Bool, true, false, List, [], ◌∷◌, length, Some, All}
use Rattle.std.specs.List.{flat_map}
use Rattle.p11_lines.specs.declared.answer.Answer.{Answer}
use Rattle.p11_lines.specs.declared.answer.Answer.TheVariants as answers
use Rattle.p11_lines.specs.declared.answer.StopReason.{StopReason}
use Rattle.p11_lines.specs.declared.answer.StopReason.TheVariants as reasons
use Rattle.p11_lines.specs.declared.line.Line.{Line}
use Rattle.p11_lines.specs.declared.line.Line.TheVariants as lines
use Rattle.p11_lines.specs.Calls.LineText.{line_text, FitsGrammar}
use Rattle.p11_cpu.specs.State.{State}
use Rattle.p11_panel.specs.Calls.Runs.{IsRun, stops_idling}
use Rattle.p11_panel.specs.Script.{script_lines}
use Rattle.p11_panel.specs.Session.{SessionState, Obeys, Asks, LineDoes, LinesRun}
use Rattle.p11_dialogue.specs.Record.{ended}

-- keys and turns, of which a run is made
abbrev pub is_of_run : {A : Type 0} → Line A → Bool
is_of_run (lines.Key text) = true
is_of_run (lines.Step turns) = true
is_of_run (lines.Continue turns) = true
is_of_run _ = false

-- A run that made some turns is made again by STEP with just these, whatever line asked for it: it comes to the same
-- state, and types the same.
abbrev pub RunsAreMadeAgain : Type 0 → Type 0
RunsAreMadeAgain A =
    (line : Line A) (typed : List ℕ) (reason : StopReason) (turns pc : ℕ) (s s' : SessionState)
    → is_of_run line ≡ true → Obeys line s (answers.Stop typed reason turns pc) s' → 0 < turns
    → (other : StopReason) × Obeys {A = A} (lines.Step turns) s (answers.Stop typed other turns pc) s'

-- Steps that follow a step which made all its turns are one with it.
abbrev pub TwoStepsAreOne : Type 0
TwoStepsAreOne =
    (n m k : ℕ) (reason : StopReason) (s s' s'' : State)
    → IsRun (stops_idling false) n s n reasons.Turns s' → IsRun (stops_idling false) m s' k reason s''
    → IsRun (stops_idling false) (n + m) s (n + k) reason s''

-- one machine, and the same bytes under each name
abbrev pub Alike : SessionState → SessionState → Type 0
Alike s t = (t.machine ≡ s.machine) × (t.store.files ≡ s.store.files)

-- a line that a script can have: its numbers and names are of the grammar, and its text has at most 4,096 bytes
abbrev pub IsOfScript : {A : Type 0} → Line A → Type 0
IsOfScript line = FitsGrammar line × (length (line_text line) ≤ 4096)

-- lines that a session asks for, one after another, with their answers
unfoldable pub AreAsked : {A : Type 0} → List (Line A) → SessionState → List (Answer A) → SessionState → Type 0
AreAsked [] s [] s' = s' ≡ s
AreAsked (line ∷ lines) s (answer ∷ answers) s'' =
    (s' : SessionState) × Asks (Some line) s answer s' × AreAsked lines s' answers s''
AreAsked lines s answers s' = ⊥

-- A session whose script is a record asks for the lines of the record, in order, and for nothing else.
abbrev pub RecordsAreScripts : Type 0 → Type 0
RecordsAreScripts A =
    (lines : List (Line A)) (answers : List (Answer A)) (s s' : SessionState) → All IsOfScript lines
    → LinesRun (LineDoes {A = A}) (script_lines (flat_map ended lines)) s answers s' ↔ AreAsked lines s answers s'
