-- One outcome of a step, but for what is said.
use Rattle.std.proofs.Common.{◌≡◌, ◌≢◌, ℕ, Bool, true, false, ◌&&◌, ◌||◌, List, [], ◌++◌, ◌-◌, length, drop, Option, Some, None, Result, Ok, Err, refl, sym, ap, subst, ◌∙◌, arith, inl, inr, slice_get}
use Rattle.std.specs.Prelude.{nat_lt, nat_eq}
use Rattle.std.specs.Bool.{MatchBool}
use Rattle.p11_lines.specs.declared.answer.Answer.{Answer}
use Rattle.p11_lines.specs.declared.answer.Answer.TheVariants as answers
use Rattle.p11_lines.specs.declared.line.Line.{Line}
use Rattle.p11_lines.specs.declared.line.Line.TheVariants as lines
use Rattle.p11_lines.specs.Grammar.{line_from}
use Rattle.p11_cpu.specs.State.{State}
use Rattle.p11_cpu.specs.OperatorDevices.{tick_of, room_of}
use Rattle.p11_panel.specs.declared.command.Command.{Command}
use Rattle.p11_panel.specs.declared.command.Command.TheVariants as commands
use Rattle.p11_panel.specs.Calls.Runs.{run_command}
use Rattle.p11_panel.specs.Commands.{CommandStep}
use Rattle.p11_panel.specs.Laws.Outcomes.{HadMemory}
use Rattle.p11_panel.specs.Session.{has_answer}
use Rattle.p11_panel.proofs.OutcomeLemmas.{step_once}
use Rattle.p11_phrases.specs.declared.phrase.Phrase.{Phrase}
use Rattle.p11_phrases.specs.declared.place.ExaminedPlace.{ExaminedPlace}
use Rattle.p11_phrases.specs.declared.refusal.Refusal.{Refusal}
use Rattle.p11_phrases.specs.Phrases.{meaning}
use Rattle.p11_dialogue.specs.Lines.{first_line, behind_line}
use Rattle.p11_dialogue.specs.Manner.{is_person, tried_by}
use Rattle.p11_dialogue.specs.LineKinds.{kind_of_line}
use Rattle.p11_console.specs.Once.{HadMemoryActivity, StepsHaveOneOutcome}
use Rattle.p11_dialogue.specs.Record.{ended, recorded, tick_text}
use Rattle.p11_dialogue.specs.Runs.{slice_turns, at_slice, behind_escape, without_interrupt}
use Rattle.p11_console.specs.Saved.{any_unsaved, all_drives}
use Rattle.p11_console.specs.State.{ConsoleState}
use Rattle.p11_dialogue.specs.Behind.{activity_ended}
use Rattle.p11_console.specs.Steps.{Moves, FindsLine, Begins, goes_behind, StepsAgain, Answers, activity_agreed, stopped_by, is_refusal, DoesMeant, DoesScripted, DoesPhrase, ReadsAs, Reads, DoesGiven, TakesLine, TakesKey, Types, TicksIn, RunsBy, Runs, LeavesBy, Leaves, AnswersBy, Consents, UnmountsBy, loses, activity_consented, has_some, has_scripted, has_given, still_warned, is_once, course_now, steps_again, is_by_person, leaves_at_once}
use Rattle.p11_console.specs.Tries.{run_begun, Acts, ActsOr, Saves, activity_saved, TriesRun, TriesUnmount, TriesLine, TriesOr, Tries, Does, DoesLine, command_of}
use Rattle.p11_dialogue.specs.Typing.{taken, line_of, outcome_activity}
use Rattle.p11_dialogue.specs.declared.stop.StopCause.TheVariants.{Key}
use Rattle.p11_dialogue.specs.declared.line_kind.LineKind.{LineKind}
use Rattle.p11_dialogue.specs.declared.line_kind.LineKind.TheVariants as kinds
use Rattle.p11_dialogue.specs.declared.run.RunProgress.{RunProgress}
use Rattle.p11_dialogue.specs.declared.run.Course.{Course}
use Rattle.p11_dialogue.specs.declared.run.Course.TheVariants as course
use Rattle.p11_dialogue.specs.declared.settings.Trying.{Trying}
use Rattle.p11_dialogue.specs.declared.activity.Activity.{Activity}
use Rattle.p11_dialogue.specs.declared.activity.Activity.TheVariants as activities

-- LINES

acts_once : {A : Type 0} (command : Command A) (text : List ℕ) (s : State) (w v : Activity A) (s' t' : State) → Acts command text s w s' → Acts command text s v t' → HadMemoryActivity w → HadMemoryActivity v → (w ≡ v) × (s' ≡ t')
unfolding Acts
acts_once command text s w v s' t' h k m l =
    let one = step_once s command h.0 k.0 s' t' h.1 k.1 (subst HadMemoryActivity h.2 m) (subst HadMemoryActivity k.2 l) in
    (h.2 ∙ ap (λ x. activities.Telling x (recorded text x) tt) one.0 ∙ sym k.2, one.1)

or_once : {A : Type 0} (line : Line A) (found : Result (Command A) (Line A)) (s : State) (w v : Activity A) (s' t' : State) → ActsOr line found s w s' → ActsOr line found s v t' → HadMemoryActivity w → HadMemoryActivity v → (w ≡ v) × (s' ≡ t')
or_once line (Ok command) s w v s' t' h k m l = acts_once command (ended line) s w v s' t' h k m l
or_once line (Err other) s w v s' t' h k m l = (h.0 ∙ sym k.0, h.1 ∙ sym k.1)

had_image : {A : Type 0} (image : List ℕ) → HadMemory {A = A} (answers.Image image)
had_image image = ((λ e. cc), (λ typed k pc e. cc))

had_saved : {A : Type 0} (how : Trying) (line : Line A) (text : List ℕ) (answer : Answer A) → HadMemoryActivity (activity_saved how line text answer) → HadMemory answer
unfolding activity_saved
had_saved how line text (answers.Image image) m = had_image image
had_saved how line text answer m = m

saves_once : {A : Type 0} (how : Trying) (drive : ℕ) (line : Line A) (text : List ℕ) (s : State) (w v : Activity A) (s' t' : State) → Saves how drive line text s w s' → Saves how drive line text s v t' → HadMemoryActivity w → HadMemoryActivity v → (w ≡ v) × (s' ≡ t')
unfolding Saves
saves_once how drive line text s w v s' t' h k m l =
    let one = step_once s (commands.Save drive) h.0 k.0 s' t' h.1 k.1 (had_saved how line text h.0 (subst HadMemoryActivity h.2 m)) (had_saved how line text k.0 (subst HadMemoryActivity k.2 l)) in
    (h.2 ∙ ap (activity_saved how line text) one.0 ∙ sym k.2, one.1)

whole_once : {A : Type 0} (is_whole : Bool) (command : Command A) (text : List ℕ) (activity : Activity A) (s : State) (w v : Activity A) (s' t' : State) → MatchBool is_whole (Acts command text s w s') ((w ≡ activity) × (s' ≡ s)) → MatchBool is_whole (Acts command text s v t') ((v ≡ activity) × (t' ≡ s)) → HadMemoryActivity w → HadMemoryActivity v → (w ≡ v) × (s' ≡ t')
whole_once true command text activity s w v s' t' h k m l = acts_once command text s w v s' t' h k m l
whole_once false command text activity s w v s' t' h k m l = (h.0 ∙ sym k.0, h.1 ∙ sym k.1)

run_once : {A : Type 0} (how : Trying) (line : Line A) (turns : ℕ) (until_idle : Bool) (s : State) (w v : Activity A) (s' t' : State) → TriesRun how line turns until_idle s w s' → TriesRun how line turns until_idle s v t' → HadMemoryActivity w → HadMemoryActivity v → (w ≡ v) × (s' ≡ t')
unfolding TriesRun
run_once how line turns until_idle s w v s' t' h k m l = whole_once how.is_whole _ _ _ s w v s' t' h k m l

asked_once : {A : Type 0} (is_asking : Bool) (command : Command A) (text : List ℕ) (activity : Activity A) (s : State) (w v : Activity A) (s' t' : State) → MatchBool is_asking ((w ≡ activity) × (s' ≡ s)) (Acts command text s w s') → MatchBool is_asking ((v ≡ activity) × (t' ≡ s)) (Acts command text s v t') → HadMemoryActivity w → HadMemoryActivity v → (w ≡ v) × (s' ≡ t')
asked_once true command text activity s w v s' t' h k m l = (h.0 ∙ sym k.0, h.1 ∙ sym k.1)
asked_once false command text activity s w v s' t' h k m l = acts_once command text s w v s' t' h k m l

unmount_once : {A : Type 0} (how : Trying) (drive : ℕ) (s : State) (w v : Activity A) (s' t' : State) → TriesUnmount how drive s w s' → TriesUnmount how drive s v t' → HadMemoryActivity w → HadMemoryActivity v → (w ≡ v) × (s' ≡ t')
unfolding TriesUnmount
unmount_once how drive s w v s' t' h k m l = asked_once how.is_asking _ _ _ s w v s' t' h k m l

line_once : {A : Type 0} (how : Trying) (line : Line A) (s : State) (w v : Activity A) (s' t' : State) → TriesLine how line s w s' → TriesLine how line s v t' → HadMemoryActivity w → HadMemoryActivity v → (w ≡ v) × (s' ≡ t')
unfolding TriesLine
line_once how (lines.Step n) s w v s' t' h k m l = run_once how (lines.Step n) n false s w v s' t' h k m l
line_once how (lines.Continue n) s w v s' t' h k m l = run_once how (lines.Continue n) n true s w v s' t' h k m l
line_once {A} how (lines.Save a b) s w v s' t' h k m l = saves_once {A = A} how a (lines.Save a b) (ended {A = A} (lines.Save a b)) s w v s' t' h k m l
line_once how (lines.Mount a b d) s w v s' t' h k m l = or_once (lines.Mount a b d) (command_of (lines.Mount a b d)) s w v s' t' h k m l
line_once {A} how (lines.Unmount a) s w v s' t' h k m l = unmount_once {A = A} how a s w v s' t' h k m l
line_once how (lines.Changed a) s w v s' t' h k m l = or_once (lines.Changed a) (command_of (lines.Changed a)) s w v s' t' h k m l
line_once how (lines.Load a) s w v s' t' h k m l = or_once (lines.Load a) (command_of (lines.Load a)) s w v s' t' h k m l
line_once how (lines.Examine a b) s w v s' t' h k m l = or_once (lines.Examine a b) (command_of (lines.Examine a b)) s w v s' t' h k m l
line_once how (lines.Deposit a b) s w v s' t' h k m l = or_once (lines.Deposit a b) (command_of (lines.Deposit a b)) s w v s' t' h k m l
line_once how (lines.Start a) s w v s' t' h k m l = or_once (lines.Start a) (command_of (lines.Start a)) s w v s' t' h k m l
line_once how (lines.Key a) s w v s' t' h k m l = or_once (lines.Key a) (command_of (lines.Key a)) s w v s' t' h k m l
line_once how lines.Tick s w v s' t' h k m l = or_once lines.Tick (command_of lines.Tick) s w v s' t' h k m l
line_once how (lines.Clock a) s w v s' t' h k m l = or_once (lines.Clock a) (command_of (lines.Clock a)) s w v s' t' h k m l
line_once how (lines.Switches a) s w v s' t' h k m l = or_once (lines.Switches a) (command_of (lines.Switches a)) s w v s' t' h k m l
line_once how (lines.Set a b) s w v s' t' h k m l = or_once (lines.Set a b) (command_of (lines.Set a b)) s w v s' t' h k m l
line_once how lines.Regs s w v s' t' h k m l = or_once lines.Regs (command_of lines.Regs) s w v s' t' h k m l
line_once how lines.Device s w v s' t' h k m l = or_once lines.Device (command_of lines.Device) s w v s' t' h k m l
line_once how lines.Flush s w v s' t' h k m l = or_once lines.Flush (command_of lines.Flush) s w v s' t' h k m l

found_once : {A : Type 0} (how : Trying) (found : Option (Line A)) (s : State) (w v : Activity A) (s' t' : State) → TriesOr how found s w s' → TriesOr how found s v t' → HadMemoryActivity w → HadMemoryActivity v → (w ≡ v) × (s' ≡ t')
found_once how None s w v s' t' h k m l = (h.0 ∙ sym k.0, h.1 ∙ sym k.1)
found_once how (Some line) s w v s' t' h k m l = line_once how line s w v s' t' h k m l

bool_once : {A : Type 0} (how : Trying) (b : Bool) (found : Option (Line A)) (s : State) (w v : Activity A) (s' t' : State) → MatchBool b (TriesOr how found s w s') ((w ≡ activities.Free) × (s' ≡ s)) → MatchBool b (TriesOr how found s v t') ((v ≡ activities.Free) × (t' ≡ s)) → HadMemoryActivity w → HadMemoryActivity v → (w ≡ v) × (s' ≡ t')
bool_once how true found s w v s' t' h k m l = found_once how found s w v s' t' h k m l
bool_once how false found s w v s' t' h k m l = (h.0 ∙ sym k.0, h.1 ∙ sym k.1)

text_once : {A : Type 0} (how : Trying) (text : List ℕ) (s : State) (w v : Activity A) (s' t' : State) → Tries how text s w s' → Tries how text s v t' → HadMemoryActivity w → HadMemoryActivity v → (w ≡ v) × (s' ≡ t')
unfolding Tries
text_once how text s w v s' t' h k m l = bool_once how (has_answer text) (line_from text) s w v s' t' h k m l

does_once : {A : Type 0} (kind : LineKind) (how : Trying) (line : List ℕ) (s : State) (w v : Activity A) (s' t' : State) → Does kind how line s w s' → Does kind how line s v t' → HadMemoryActivity w → HadMemoryActivity v → (w ≡ v) × (s' ≡ t')
does_once kinds.Talk how line s w v s' t' h k m l = (h.0 ∙ sym k.0, h.1 ∙ sym k.1)
does_once kinds.Once how line s w v s' t' h k m l = (h.0 ∙ sym k.0, h.1 ∙ sym k.1)
does_once kinds.Quit how line s w v s' t' h k m l = (h.0 ∙ sym k.0, h.1 ∙ sym k.1)
does_once kinds.Help how line s w v s' t' h k m l = (h.0 ∙ sym k.0, h.1 ∙ sym k.1)
does_once kinds.Do how line s w v s' t' h k m l = (h.0 ∙ sym k.0, h.1 ∙ sym k.1)
does_once kinds.Language how line s w v s' t' h k m l = text_once how line s w v s' t' h k m l

typed_once : {A : Type 0} (how : Trying) (line : List ℕ) (s : State) (w v : Activity A) (s' t' : State) → DoesLine how line s w s' → DoesLine how line s v t' → HadMemoryActivity w → HadMemoryActivity v → (w ≡ v) × (s' ≡ t')
unfolding DoesLine
typed_once how line s w v s' t' h k m l = does_once (kind_of_line line) how line s w v s' t' h k m l

-- STATES THAT ARE ONE BUT FOR THE SCREEN

-- a state with this on its screen
abbrev shown : {A : Type 0} → List ℕ → ConsoleState A → ConsoleState A
shown screen d = record d { screen = screen }

-- both are one state with these machines, screens and ways
same : {A : Type 0} (to : State → List ℕ → Activity A → ConsoleState A) (c' d' : ConsoleState A) → ((m : State) (x y : List ℕ) (w : Activity A) → to m y w ≡ record (to m x w) { screen = y }) → c' ≡ to c'.machine c'.screen c'.activity → d' ≡ to d'.machine d'.screen d'.activity → c'.machine ≡ d'.machine → c'.activity ≡ d'.activity → c' ≡ record d' { screen = c'.screen }
same to c' d' screens h k machine activity =
    h ∙ ap (λ m. to m c'.screen c'.activity) machine ∙ ap (λ w. to d'.machine c'.screen w) activity
    ∙ screens d'.machine d'.screen c'.screen d'.activity ∙ ap (shown c'.screen) (sym k)

-- both are one state with these screens
said : {A : Type 0} (to : List ℕ → ConsoleState A) (c' d' : ConsoleState A) → ((x y : List ℕ) → to y ≡ record (to x) { screen = y }) → c' ≡ to c'.screen → d' ≡ to d'.screen → c' ≡ record d' { screen = c'.screen }
said to c' d' screens h k = h ∙ screens d'.screen c'.screen ∙ ap (shown c'.screen) (sym k)

-- both are one state
whole : {A : Type 0} (e c' d' : ConsoleState A) → c' ≡ e → d' ≡ e → c' ≡ record d' { screen = c'.screen }
whole e c' d' h k = let one = h ∙ sym k in subst (λ x. c' ≡ record d' { screen = x }) (ap (λ d. d.screen) (sym one)) one

-- STEPS

-- a tick never wants memory
tick_is : {A : Type 0} (s : State) (answer : Answer A) (s' : State) → CommandStep s commands.Tick answer s' → s' ≡ tick_of s
tick_is s answer s' (inl e) = sym (ap (λ r. r.0) e)
tick_is s answer s' (inr (inl (takes, refused))) = cc
tick_is s answer s' (inr (inr (k, below, needs, stops))) = absurd (omega (arith, below))

ticks_once : {A : Type 0} (made : ℕ) (activity : Activity A) (c c' d' : ConsoleState A) → TicksIn made activity c c' → TicksIn made activity c d' → c' ≡ record d' { screen = c'.screen }
ticks_once {A} made activity c c' d' h k =
    let to : State → List ℕ → Activity A → ConsoleState A = λ m x w. record c { machine = m; ticks = c.ticks - 1; screen = x; journal = c.journal ++ tick_text A made; activity = w } in
    let one = tick_is c.machine h.0 c'.machine h.1 in
    let other = tick_is c.machine k.0 d'.machine k.1 in
    whole (to (tick_of c.machine) c.screen activity) c' d' (h.2 ∙ ap (λ m. to m c.screen activity) one) (k.2 ∙ ap (λ m. to m c.screen activity) other)

meant_once : {A : Type 0} (c c' d' : ConsoleState A) → DoesMeant c c' → DoesMeant c d' → HadMemoryActivity c'.activity → HadMemoryActivity d'.activity → c' ≡ record d' { screen = c'.screen }
meant_once {A} c c' d' h k m l =
    let one = typed_once (tried_by c.settings) (first_line c.lines) c.machine c'.activity d'.activity c'.machine d'.machine h.0 k.0 m l in
    same (λ s x w. record c { machine = s; lines = behind_line c.lines; is_stepping = is_once (kind_of_line (first_line c.lines)); is_scripted = false; is_warned = still_warned c.is_warned (first_line c.lines); screen = x; activity = w }) c' d' (λ s x y w. refl) h.2 k.2 one.1 one.0

scripted_once : {A : Type 0} (c c' d' : ConsoleState A) → DoesScripted c c' → DoesScripted c d' → HadMemoryActivity c'.activity → HadMemoryActivity d'.activity → c' ≡ record d' { screen = c'.screen }
scripted_once {A} c c' d' h k m l =
    let one = text_once (tried_by c.settings) (first_line c.script) c.machine c'.activity d'.activity c'.machine d'.machine h.0 k.0 m l in
    let to : State → Activity A → ConsoleState A = λ s w. record c { machine = s; script = behind_line c.script; is_scripted = true; is_warned = false; activity = w } in
    whole (to d'.machine d'.activity) c' d' (h.1 ∙ ap (λ s. to s c'.activity) one.1 ∙ ap (to d'.machine) one.0) k.1

given_once : {A : Type 0} (c c' d' : ConsoleState A) → DoesGiven c c' → DoesGiven c d' → HadMemoryActivity c'.activity → HadMemoryActivity d'.activity → c' ≡ record d' { screen = c'.screen }
given_once {A} c c' d' h k m l =
    let one = typed_once (tried_by c.settings) (first_line c.waiting) c.machine c'.activity d'.activity c'.machine d'.machine h.0 k.0 m l in
    same (λ s x w. record c { machine = s; waiting = behind_line c.waiting; is_scripted = false; is_warned = still_warned c.is_warned (first_line c.waiting); screen = x; activity = w }) c' d' (λ s x y w. refl) h.2 k.2 one.1 one.0

key_once : {A : Type 0} (found : Option ℕ) (c c' d' : ConsoleState A) → TakesKey found c c' → TakesKey found c d' → c' ≡ record d' { screen = c'.screen }
key_once None c c' d' h k = whole (record c { activity = activities.Leaving }) c' d' h.1 k.1
key_once (Some byte) c c' d' h k =
    said (λ x. record c { waiting = drop 1 c.waiting; typist = (taken byte c.typist).0; screen = x; activity = outcome_activity (taken byte c.typist).1 }) c' d' (λ x y. refl) h.1 k.1

lines_once : {A : Type 0} (b : Bool) (c c' d' : ConsoleState A) → MatchBool b (DoesGiven c c') ((c.is_over ≡ true) × (c' ≡ record c { activity = activities.Leaving })) → MatchBool b (DoesGiven c d') ((c.is_over ≡ true) × (d' ≡ record c { activity = activities.Leaving })) → HadMemoryActivity c'.activity → HadMemoryActivity d'.activity → c' ≡ record d' { screen = c'.screen }
lines_once true c c' d' h k m l = given_once c c' d' h k m l
lines_once false c c' d' h k m l = whole (record c { activity = activities.Leaving }) c' d' h.1 k.1

by_manner_once : {A : Type 0} (b : Bool) (c c' d' : ConsoleState A) → MatchBool b (TakesKey (slice_get c.waiting 0) c c') (TakesLine c c') → MatchBool b (TakesKey (slice_get c.waiting 0) c d') (TakesLine c d') → HadMemoryActivity c'.activity → HadMemoryActivity d'.activity → c' ≡ record d' { screen = c'.screen }
by_manner_once true c c' d' h k m l = key_once (slice_get c.waiting 0) c c' d' h k
by_manner_once false c c' d' h k m l = lines_once (has_given c.is_over c.waiting) c c' d' h k m l

keys_once : {A : Type 0} (b : Bool) (c c' d' : ConsoleState A) → MatchBool b (TicksIn 0 activities.Typing c c') (MatchBool (is_by_person c) (TakesKey (slice_get c.waiting 0) c c') (TakesLine c c')) → MatchBool b (TicksIn 0 activities.Typing c d') (MatchBool (is_by_person c) (TakesKey (slice_get c.waiting 0) c d') (TakesLine c d')) → HadMemoryActivity c'.activity → HadMemoryActivity d'.activity → c' ≡ record d' { screen = c'.screen }
keys_once true c c' d' h k m l = ticks_once 0 activities.Typing c c' d' h k
keys_once false c c' d' h k m l = by_manner_once (is_by_person c) c c' d' h k m l

types_once : {A : Type 0} (c c' d' : ConsoleState A) → Types c c' → Types c d' → HadMemoryActivity c'.activity → HadMemoryActivity d'.activity → c' ≡ record d' { screen = c'.screen }
unfolding Types
types_once c c' d' h k m l = keys_once (nat_lt 0 c.ticks) c c' d' h k m l

begins_once : {A : Type 0} (c c' d' : ConsoleState A) → Begins c c' → Begins c d' → c' ≡ record d' { screen = c'.screen }
begins_once c c' d' h k = said (λ x. record c { is_to_talk = false; typist = line_of c.typist; screen = x; activity = goes_behind c }) c' d' (λ x y. refl) h.1 k.1

behind_once : {A : Type 0} (b : Bool) (c c' d' : ConsoleState A) → MatchBool b (DoesScripted c c') (Begins c c') → MatchBool b (DoesScripted c d') (Begins c d') → HadMemoryActivity c'.activity → HadMemoryActivity d'.activity → c' ≡ record d' { screen = c'.screen }
behind_once true c c' d' h k m l = scripted_once c c' d' h k m l
behind_once false c c' d' h k m l = begins_once c c' d' h k

next_once : {A : Type 0} (b : Bool) (c c' d' : ConsoleState A) → MatchBool b (DoesMeant c c') (MatchBool (has_scripted c) (DoesScripted c c') (Begins c c')) → MatchBool b (DoesMeant c d') (MatchBool (has_scripted c) (DoesScripted c d') (Begins c d')) → HadMemoryActivity c'.activity → HadMemoryActivity d'.activity → c' ≡ record d' { screen = c'.screen }
next_once true c c' d' h k m l = meant_once c c' d' h k m l
next_once false c c' d' h k m l = behind_once (has_scripted c) c c' d' h k m l

finds_once : {A : Type 0} (c c' d' : ConsoleState A) → FindsLine c c' → FindsLine c d' → HadMemoryActivity c'.activity → HadMemoryActivity d'.activity → c' ≡ record d' { screen = c'.screen }
unfolding FindsLine
finds_once c c' d' h k m l = next_once (has_some c.lines) c c' d' h k m l

phrase_once : {A : Type 0} (meant : Option (List ℕ)) (place : ExaminedPlace) (line : List ℕ) (c c' d' : ConsoleState A) → DoesPhrase meant place line c c' → DoesPhrase meant place line c d' → HadMemoryActivity c'.activity → HadMemoryActivity d'.activity → c' ≡ record d' { screen = c'.screen }
phrase_once {A} None place line c c' d' h k m l =
    let one = typed_once (tried_by c.settings) line c.machine c'.activity d'.activity c'.machine d'.machine h.0 k.0 m l in
    same (λ s x w. record c { machine = s; place = place; is_stepping = is_once (kind_of_line line); is_scripted = false; is_warned = still_warned c.is_warned line; screen = x; activity = w }) c' d' (λ s x y w. refl) h.2 k.2 one.1 one.0
phrase_once (Some lines) place line c c' d' h k m l = whole (record c { place = place; lines = lines; activity = activities.Free }) c' d' h k

read_once : {A : Type 0} (found : Result (Phrase A) Refusal) (line : List ℕ) (c c' d' : ConsoleState A) → ReadsAs found line c c' → ReadsAs found line c d' → HadMemoryActivity c'.activity → HadMemoryActivity d'.activity → c' ≡ record d' { screen = c'.screen }
read_once (Err refusal) line c c' d' h k m l = whole _ c' d' h k
read_once (Ok phrase) line c c' d' h k m l = phrase_once phrase.lines phrase.place line c c' d' h k m l

again_once : {A : Type 0} (b : Bool) (found : Result (Phrase A) Refusal) (line : List ℕ) (c c' d' : ConsoleState A) → MatchBool b (StepsAgain c c') (ReadsAs found line c c') → MatchBool b (StepsAgain c d') (ReadsAs found line c d') → HadMemoryActivity c'.activity → HadMemoryActivity d'.activity → c' ≡ record d' { screen = c'.screen }
again_once true found line c c' d' h k m l =
    said (λ x. record c { is_scripted = false; is_warned = false; screen = x; activity = run_begun 1 false }) c' d' (λ x y. refl) h.1 k.1
again_once false found line c c' d' h k m l = read_once found line c c' d' h k m l

reads_once : {A : Type 0} (c c' d' : ConsoleState A) → Reads c c' → Reads c d' → HadMemoryActivity c'.activity → HadMemoryActivity d'.activity → c' ≡ record d' { screen = c'.screen }
unfolding Reads
reads_once c c' d' h k m l = again_once (steps_again c) (meaning c.place c.typist.editor.line.text) c.typist.editor.line.text c c' d' h k m l

runs_by_once : {A : Type 0} (found : Course) (turns : ℕ) (run : RunProgress) (c c' d' : ConsoleState A) → RunsBy found turns run c c' → RunsBy found turns run c d' → HadMemoryActivity c'.activity → HadMemoryActivity d'.activity → c' ≡ record d' { screen = c'.screen }
runs_by_once {A} course.Slices turns run c c' d' h k m l =
    let to : State → Answer A → ConsoleState A = λ s x. record c { machine = s; activity = activities.Sliced (at_slice (has_some c.waiting) run) x } in
    let one = step_once c.machine (run_command {A = A} run.until_idle (slice_turns run (has_some c.waiting) turns)) h.0 k.0 c'.machine d'.machine h.1 k.1 (subst HadMemoryActivity (ap (λ x. x.activity) h.2) m) (subst HadMemoryActivity (ap (λ x. x.activity) k.2) l) in
    whole (to d'.machine k.0) c' d' (h.2 ∙ ap (λ s. to s h.0) one.1 ∙ ap (to d'.machine) one.0) k.2
runs_by_once course.Presses turns run c c' d' h k m l = whole _ c' d' h k
runs_by_once course.Ticks turns run c c' d' h k m l = ticks_once run.made _ c c' d' h k
runs_by_once course.Records turns run c c' d' h k m l = whole _ c' d' h k
runs_by_once course.Escapes turns run c c' d' h k m l =
    said (λ x. record c { waiting = behind_escape run.is_talk c.waiting; screen = x; activity = stopped_by Key run c.machine }) c' d' (λ x y. refl) h.1 k.1
runs_by_once course.Hints turns run c c' d' h k m l =
    said (λ x. record c { waiting = without_interrupt c.waiting; screen = x; activity = activities.Running run }) c' d' (λ x y. refl) h.1 k.1
runs_by_once course.Ends turns run c c' d' h k m l = whole _ c' d' h k
runs_by_once course.Rests turns run c c' d' h k m l = absurd h

runs_once : {A : Type 0} (turns : ℕ) (run : RunProgress) (c c' d' : ConsoleState A) → Runs turns run c c' → Runs turns run c d' → HadMemoryActivity c'.activity → HadMemoryActivity d'.activity → c' ≡ record d' { screen = c'.screen }
unfolding Runs
runs_once turns run c c' d' h k m l = runs_by_once (course_now run c) turns run c c' d' h k m l

leaves_by_once : {A : Type 0} (b : Bool) (c c' d' : ConsoleState A) → LeavesBy b c c' → LeavesBy b c d' → c' ≡ record d' { screen = c'.screen }
leaves_by_once true c c' d' h k = said (λ x. record c { screen = x; activity = activities.Over }) c' d' (λ x y. refl) h.1 k.1
leaves_by_once false c c' d' h k = said (λ x. record c { is_warned = true; screen = x; activity = activities.Free }) c' d' (λ x y. refl) h.1 k.1

leaves_once : {A : Type 0} (c c' d' : ConsoleState A) → Leaves c c' → Leaves c d' → c' ≡ record d' { screen = c'.screen }
unfolding Leaves
leaves_once c c' d' h k = leaves_by_once _ c c' d' h k

answers_once : {A : Type 0} (found : Option ℕ) (line : Line A) (image text : List ℕ) (c c' d' : ConsoleState A) → AnswersBy found line image text c c' → AnswersBy found line image text c d' → c' ≡ record d' { screen = c'.screen }
answers_once None line image text c c' d' h k = said (λ x. record c { screen = x; activity = activities.Free }) c' d' (λ x y. refl) h.2 k.2
answers_once (Some byte) line image text c c' d' h k =
    said (λ x. record c { waiting = drop 1 c.waiting; screen = x; activity = activity_agreed line image text byte }) c' d' (λ x y. refl) h.1 k.1

question_once : {A : Type 0} (activity : Activity A) (c c' d' : ConsoleState A) → Answers activity c c' → Answers activity c d' → c' ≡ record d' { screen = c'.screen }
question_once (activities.Asking line image text) c c' d' h k = answers_once (slice_get c.waiting 0) line image text c c' d' h k
question_once activities.Free c c' d' h k = absurd h
question_once activities.Typing c c' d' h k = absurd h
question_once activities.Naming c c' d' h k = absurd h
question_once activities.Entered c c' d' h k = absurd h
question_once activities.Noted c c' d' h k = absurd h
question_once (activities.Helping topic) c c' d' h k = absurd h
question_once (activities.Running run) c c' d' h k = absurd h
question_once (activities.Sliced run answer) c c' d' h k = absurd h
question_once (activities.Stopped stop text) c c' d' h k = absurd h
question_once (activities.Telling answer text note) c c' d' h k = absurd h
question_once (activities.Fetching line text) c c' d' h k = absurd h
question_once (activities.Putting line image text is_agreed) c c' d' h k = absurd h
question_once (activities.Opening name) c c' d' h k = absurd h
question_once (activities.Unmounting drive is_agreed) c c' d' h k = absurd h
question_once (activities.Doubting drive) c c' d' h k = absurd h
question_once activities.Leaving c c' d' h k = absurd h
question_once activities.Over c c' d' h k = absurd h

unmounts_once : {A : Type 0} (b : Bool) (drive : ℕ) (c c' d' : ConsoleState A) → UnmountsBy b drive c c' → UnmountsBy b drive c d' → HadMemoryActivity c'.activity → HadMemoryActivity d'.activity → c' ≡ record d' { screen = c'.screen }
unmounts_once true drive c c' d' h k m l = said (λ x. record c { screen = x; activity = activities.Doubting drive }) c' d' (λ x y. refl) h.1 k.1
unmounts_once {A} false drive c c' d' h k m l =
    let one = acts_once (commands.Unmount drive) (ended {A = A} (lines.Unmount drive)) c.machine c'.activity d'.activity c'.machine d'.machine h.0 k.0 m l in
    let to : State → Activity A → ConsoleState A = λ s w. record c { machine = s; activity = w } in
    whole (to d'.machine d'.activity) c' d' (h.1 ∙ ap (λ s. to s c'.activity) one.1 ∙ ap (to d'.machine) one.0) k.1

consents_once : {A : Type 0} (found : Option ℕ) (drive : ℕ) (c c' d' : ConsoleState A) → Consents found drive c c' → Consents found drive c d' → c' ≡ record d' { screen = c'.screen }
consents_once None drive c c' d' h k = said (λ x. record c { screen = x; activity = activities.Free }) c' d' (λ x y. refl) h.2 k.2
consents_once (Some byte) drive c c' d' h k =
    said (λ x. record c { waiting = drop 1 c.waiting; screen = x; activity = activity_consented drive byte }) c' d' (λ x y. refl) h.1 k.1

moves_once : {A : Type 0} (turns : ℕ) (activity : Activity A) (c c' d' : ConsoleState A) → activity ≢ activities.Naming → Moves turns activity c c' → Moves turns activity c d' → HadMemoryActivity c'.activity → HadMemoryActivity d'.activity → c' ≡ record d' { screen = c'.screen }
moves_once turns activities.Free c c' d' other h k m l = finds_once c c' d' h k m l
moves_once turns activities.Typing c c' d' other h k m l = types_once c c' d' h k m l
moves_once turns activities.Naming c c' d' other h k m l = absurd (other refl)
moves_once turns activities.Entered c c' d' other h k m l = whole _ c' d' h k
moves_once turns activities.Noted c c' d' other h k m l = reads_once c c' d' h k m l
moves_once turns (activities.Helping topic) c c' d' other h k m l = said (λ x. record c { screen = x; activity = activities.Free }) c' d' (λ x y. refl) h.1 k.1
moves_once turns (activities.Running run) c c' d' other h k m l = runs_once turns run c c' d' h k m l
moves_once turns (activities.Sliced run answer) c c' d' other h k m l = whole _ c' d' h k
moves_once turns (activities.Stopped stop text) c c' d' other h k m l =
    said (λ x. record c { screen = x; journal = c.journal ++ text; activity = activity_ended stop.cause }) c' d' (λ x y. refl) h.1 k.1
moves_once turns (activities.Telling answer text note) c c' d' other h k m l =
    said (λ x. record c { has_refused = c.has_refused || (c.is_scripted && is_refusal answer); screen = x; journal = c.journal ++ text; activity = activities.Free }) c' d' (λ x y. refl) h.1 k.1
moves_once turns (activities.Asking line image text) c c' d' other h k m l = question_once c.activity c c' d' h k
moves_once turns (activities.Unmounting drive is_agreed) c c' d' other h k m l = unmounts_once (loses is_agreed drive c) drive c c' d' h k m l
moves_once turns (activities.Doubting drive) c c' d' other h k m l = consents_once (slice_get c.waiting 0) drive c c' d' h k
moves_once turns activities.Leaving c c' d' other h k m l = leaves_once c c' d' h k
moves_once turns (activities.Fetching line text) c c' d' other h k m l = absurd h
moves_once turns (activities.Putting line image text is_agreed) c c' d' other h k m l = absurd h
moves_once turns (activities.Opening name) c c' d' other h k m l = absurd h
moves_once turns activities.Over c c' d' other h k m l = absurd h

pub steps_once : {A : Type 0} → StepsHaveOneOutcome A
steps_once turns c c' d' other h k m l = moves_once turns c.activity c c' d' other h k m l
