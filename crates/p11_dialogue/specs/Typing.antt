-- Keys that make a line.
use Rattle.std.specs.Prelude.{◌≡◌, ◌⊎◌, ℕ, false, ◌&&◌, nat_eq, List, [], ◌∷◌, ◌++◌, length, Option, Some, None, if◌then◌else◌}
use Rattle.p11_line_editor.specs.declared.decoder.DecoderPhase.{DecoderPhase}
use Rattle.p11_line_editor.specs.declared.decoder.DecoderPhase.TheVariants.{Start}
use Rattle.p11_line_editor.specs.declared.editor.Editor.{Editor}
use Rattle.p11_line_editor.specs.declared.key.Key.{Key}
use Rattle.p11_line_editor.specs.declared.key.Key.TheVariants.{Character}
use Rattle.p11_line_editor.specs.declared.outcome.Outcome.{Outcome}
use Rattle.p11_line_editor.specs.declared.outcome.Outcome.TheVariants.{Done, Complete, Ended}
use Rattle.p11_line_editor.specs.Completion.{completed}
use Rattle.p11_line_editor.specs.Decoding.{decoded, paused}
use Rattle.p11_line_editor.specs.Editing.{begun, empty_line, pressed}
use Rattle.p11_line_editor.specs.History.{remembered}
use Rattle.p11_dialogue.specs.LineKinds.{verb_of}
use Rattle.p11_dialogue.specs.declared.typist.Typist.{Typist}
use Rattle.p11_dialogue.specs.declared.activity.Activity.{Activity}
use Rattle.p11_dialogue.specs.declared.activity.Activity.TheVariants.{Typing, Naming, Entered, Leaving}

-- nothing is typed yet
unfoldable pub fresh : {A : Type 0} → Typist A
fresh = record {
  decoder = record { phase = Start };
  editor = record { line = empty_line; cut = []; draft = []; back = 0; is_searching = false; part = [] };
  history = [];
  has_returned = false;
}

-- the line behind a key, and what it has led to
abbrev pub by_press : {A : Type 0} → Typist A → Editor × Outcome → Typist A × Option Outcome
by_press t step = (record t { editor = step.0 }, Some step.1)

abbrev pub by_key : {A : Type 0} → Typist A → Option Key → Typist A × Option Outcome
by_key t None = (t, None)
by_key t (Some key) = by_press t (pressed key t.history t.editor)

abbrev pub by_step : {A : Type 0} → Typist A → DecoderPhase × Option Key → Typist A × Option Outcome
by_step t step = by_key (record t { decoder = record { phase = step.0 } }) step.1

-- a byte of the keyboard; an LF (10) right behind a CR (13) is none
unfoldable pub taken : {A : Type 0} → ℕ → Typist A → Typist A × Option Outcome
taken byte t =
    if nat_eq byte 10 && t.has_returned then (record t { has_returned = nat_eq byte 13 }, None)
    else by_step (record t { has_returned = nat_eq byte 13 }) (decoded t.decoder.phase byte)

-- the keyboard has nothing more for now
unfoldable pub rested : {A : Type 0} → Typist A → Typist A
rested t = record t { decoder = record { phase = paused t.decoder.phase }; has_returned = false }

-- the word at the cursor is completed by words, and a space may follow
abbrev pub CompletedBy : {A : Type 0} → List (List ℕ) → Typist A → Typist A → Type 0
CompletedBy words t t' =
    (t' ≡ record t { editor = (completed words t.editor).0 })
    ⊎ (t' ≡ record t { editor = (pressed (Character 32) t.history (completed words t.editor).0).0 })

-- a new line is begun
abbrev pub line_of : {A : Type 0} → Typist A → Typist A
line_of t = record t { editor = begun t.editor }

-- the line that is ended is the newest of the history, if it has a word
unfoldable pub kept_line : {A : Type 0} → Typist A → Typist A
kept_line t =
    if nat_eq (length (verb_of t.editor.line.text)) 0 then t
    else record t { history = remembered t.editor.line.text t.history }

-- its text for the history's file, if it has a word
unfoldable pub past_of : {A : Type 0} → Typist A → List ℕ
past_of t = if nat_eq (length (verb_of t.editor.line.text)) 0 then [] else t.editor.line.text ++ 10 ∷ []

-- what comes under way by what a key has led to
abbrev pub outcome_activity : {A : Type 0} → Option Outcome → Activity A
outcome_activity (Some Done) = Entered
outcome_activity (Some Complete) = Naming
outcome_activity (Some Ended) = Leaving
outcome_activity _ = Typing
