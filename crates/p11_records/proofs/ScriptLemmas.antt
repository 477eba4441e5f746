-- A record is a script: the texts of its lines are the lines of the script.
use Rattle.std.proofs.Common.{◌≡◌, ◌↔◌, ℕ, suc, ◌-◌, ◌<◌, ◌≤◌, get_or, nat_eq, nat_lt, false, List, [], ◌∷◌, ◌++◌, length, map, take, drop, refl, sym, ap, subst, ◌∙◌, append_assoc, arith, Option, Some, None, All}
use Rattle.std.specs.Prelude.{IsSomeAnd}
use Rattle.std.specs.Option.{option_to_list}
use Rattle.std.specs.List.{flat_map}
use Rattle.std.proofs.lemmas.Bool.Decides.{nat_tests}
use Rattle.std.proofs.lemmas.List.Elements.{All-head, All-tail}
use Rattle.std.proofs.lemmas.List.Splits.{slice_split_at, length-slice_split}
use Rattle.p11_lines.specs.declared.answer.Answer.{Answer}
use Rattle.p11_lines.specs.declared.line.Line.{Line}
use Rattle.p11_lines.specs.declared.line.Line.TheVariants as lines
use Rattle.p11_lines.specs.Calls.LineText.{line_text, FitsGrammar}
use Rattle.p11_lines.proofs.ReadBack.{line_from-line_text, visible-line_text}
use Rattle.p11_lines.specs.LineEnd.{without_cr}
use Rattle.p11_panel.specs.Script.{pieces_of, ended_lines, script_lines}
use Rattle.p11_panel.specs.Session.{SessionState, Asks, has_answer, is_silent, LineDoes, LinesRun}
use Rattle.p11_dialogue.specs.Record.{ended}
use Rattle.p11_records.specs.Again.{IsOfScript, AreAsked}

-- a text with no control character is one piece, and has no CR at its end
no_lf : (text : List ℕ) → All (λ byte. 32 ≤ byte) text → All (λ byte. nat_eq byte 10 ≡ false) text
no_lf text visible = λ k d below. not_lf (get_or text k d) (visible k d below)
  where
    not_lf : (byte : ℕ) → 32 ≤ byte → nat_eq byte 10 ≡ false
    not_lf byte above = grind (arith, nat_tests)

pieces_with : (text rest : List ℕ) → All (λ byte. 32 ≤ byte) text → pieces_of (text ++ 10 ∷ rest) ≡ text ∷ pieces_of rest
pieces_with text rest visible = slice_split_at (λ byte. nat_eq byte 10) text 10 rest (no_lf text visible) refl

cut_front : (text : List ℕ) (pieces : List (List ℕ)) → 0 < length pieces
    → map without_cr (take (length (text ∷ pieces) - 1) (text ∷ pieces)) ++ drop (length (text ∷ pieces) - 1) (text ∷ pieces)
    ≡ without_cr text ∷ (map without_cr (take (length pieces - 1) pieces) ++ drop (length pieces - 1) pieces)
cut_front text [] some = absurd (omega (arith, some))
cut_front text (piece ∷ pieces) some =
    let more : suc (suc (length pieces)) - 1 ≡ suc (suc (length pieces) - 1) = omega arith in
    ap (λ (n : ℕ). map without_cr (take n (text ∷ piece ∷ pieces)) ++ drop n (text ∷ piece ∷ pieces)) more

-- the line at the front of a script
front_line : (text rest : List ℕ) → All (λ byte. 32 ≤ byte) text → without_cr text ≡ text → script_lines (text ++ 10 ∷ rest) ≡ text ∷ script_lines rest
unfolding script_lines ended_lines
front_line text rest visible clean =
    rw (pieces_with text rest visible)
    (cut_front text (pieces_of rest) (omega (arith, length-slice_split (λ byte. nat_eq byte 10) rest)) ∙ ap (λ (t : List ℕ). t ∷ script_lines rest) clean)

stays : (text : List ℕ) → All (λ byte. 32 ≤ byte) text → 0 < length text → without_cr text ≡ text
unfolding without_cr
stays text visible some =
    let last : 32 ≤ get_or text (length text - 1) 0 = visible (length text - 1) 0 (omega (arith, some)) in
    let test : nat_eq (get_or text (length text - 1) 0) 13 ≡ false = grind (arith, nat_tests) in
    rw test refl

-- the text of a line isn't silent
speaks : {A : Type 0} (line : Line A) → is_silent (line_text line) ≡ false
unfolding line_text is_silent
speaks (lines.Mount drive name protect) = refl
speaks (lines.Unmount drive) = refl
speaks (lines.Save drive name) = refl
speaks (lines.Changed drive) = refl
speaks (lines.Load name) = refl
speaks (lines.Examine address count) = refl
speaks (lines.Deposit address words) = refl
speaks (lines.Start address) = refl
speaks (lines.Key text) = refl
speaks lines.Tick = refl
speaks (lines.Clock period) = refl
speaks (lines.Switches word) = refl
speaks (lines.Set register value) = refl
speaks (lines.Step turns) = refl
speaks (lines.Continue turns) = refl
speaks lines.Regs = refl
speaks lines.Device = refl
speaks lines.Flush = refl

not_none : (text : List ℕ) → is_silent text ≡ false → 0 < length text
unfolding is_silent
not_none [] spoken = cc
not_none (byte ∷ text) spoken = omega arith

record_line : {A : Type 0} (line : Line A) (lines : List (Line A)) → FitsGrammar line → script_lines (flat_map ended (line ∷ lines)) ≡ line_text line ∷ script_lines (flat_map ended lines)
unfolding ended
record_line line lines fits =
    let visible = visible-line_text line fits in
    ap script_lines (append_assoc (line_text line) (10 ∷ []) (flat_map ended lines))
    ∙ front_line (line_text line) (flat_map ended lines) visible (stays (line_text line) visible (not_none (line_text line) (speaks line)))

-- WHAT A SESSION DOES WITH IT

-- the text of a line does what the line asks for
abbrev Does : {A : Type 0} → Line A → SessionState → Option (Answer A) → SessionState → Type 0
Does line s answer s' = IsSomeAnd answer (λ a. Asks (Some line) s a s')

text_does : {A : Type 0} (line : Line A) (s : SessionState) (answer : Option (Answer A)) (s' : SessionState) → IsOfScript line → LineDoes (line_text line) s answer s' ≡ Does line s answer s'
unfolding LineDoes has_answer
text_does line s answer s' fits =
    let short : nat_lt 4096 (length (line_text line)) ≡ false = grind (arith, nat_tests, fits.1) in
    rw (short, speaks line, line_from-line_text line fits.0 fits.1) refl

asked_first : {A : Type 0} (line : Line A) (lines : List (Line A)) (texts : List (List ℕ)) (answers : List (Answer A)) (s s'' : SessionState) → IsOfScript line
    → ((others : List (Answer A)) (s' : SessionState) → LinesRun (LineDoes {A = A}) texts s' others s'' → AreAsked lines s' others s'')
    → LinesRun (LineDoes {A = A}) (line_text line ∷ texts) s answers s'' → AreAsked (line ∷ lines) s answers s''
unfolding LinesRun AreAsked
asked_first line lines texts answers s s'' fits further (None, s', others, does, run, all) =
    absurd (subst (λ (T : Type 0). T) (text_does line s None s' fits) does)
asked_first {A} line lines texts answers s s'' fits further (Some answer, s', others, does, run, all) =
    subst (λ (a : List (Answer A)). AreAsked (line ∷ lines) s a s'') (sym all)
    (s', subst (λ (T : Type 0). T) (text_does line s (Some answer) s' fits) does, further others s' run)

are_asked : {A : Type 0} (lines : List (Line A)) (answers : List (Answer A)) (s s' : SessionState) → All IsOfScript lines
    → LinesRun (LineDoes {A = A}) (script_lines (flat_map ended lines)) s answers s' → AreAsked lines s answers s'
unfolding LinesRun AreAsked LineDoes has_answer is_silent script_lines ended_lines
are_asked {A} [] answers s s' fit (answer, s1, others, does, run, all) =
    let none : answers ≡ [] = all ∙ (λ i. option_to_list (does.0 i) ++ run.0 i) in
    subst (λ (a : List (Answer A)). AreAsked [] s a s') (sym none) (run.1 ∙ does.1)
are_asked {A} (line ∷ lines) answers s s' fit run =
    let first = All-head IsOfScript line lines fit in
    asked_first line lines (script_lines (flat_map ended lines)) answers s s' first
    (λ others s1 more. are_asked lines others s1 s' (All-tail IsOfScript line lines fit) more)
    (subst (λ (texts : List (List ℕ)). LinesRun (LineDoes {A = A}) texts s answers s') (record_line line lines first.0) run)

do_run : {A : Type 0} (lines : List (Line A)) (answers : List (Answer A)) (s s' : SessionState) → All IsOfScript lines
    → AreAsked lines s answers s' → LinesRun (LineDoes {A = A}) (script_lines (flat_map ended lines)) s answers s'
unfolding LinesRun AreAsked LineDoes has_answer is_silent script_lines ended_lines
do_run [] [] s s' fit same = (None, s, [], (refl, refl), (refl, same), refl)
do_run [] (answer ∷ answers) s s' fit none = absurd none
do_run (line ∷ lines) [] s s' fit none = absurd none
do_run {A} (line ∷ lines) (answer ∷ answers) s s' fit (s1, asks, more) =
    let first = All-head IsOfScript line lines fit in
    subst (λ (texts : List (List ℕ)). LinesRun (LineDoes {A = A}) texts s (answer ∷ answers) s') (sym (record_line line lines first.0)) (
      Some answer,
      s1,
      answers,
      subst (λ (T : Type 0). T) (sym (text_does line s (Some answer) s1 first)) asks,
      do_run lines answers s1 s' (All-tail IsOfScript line lines fit) more,
      refl,
    )

pub asked : {A : Type 0} (lines : List (Line A)) (answers : List (Answer A)) (s s' : SessionState) → All IsOfScript lines
    → LinesRun (LineDoes {A = A}) (script_lines (flat_map ended lines)) s answers s' ↔ AreAsked lines s answers s'
asked lines answers s s' fit = (are_asked lines answers s s' fit, do_run lines answers s s' fit)
