-- Lines that are tried: what is recorded of them does them again.
use Rattle.std.proofs.Common.{◌≡◌, ℕ, Bool, true, false, ◌||◌, not, nat_lt, ◌==◌, if◌then◌else◌, List, [], ◌++◌, append-nil, Option, Some, None, refl, sym, subst, ◌∙◌}
use Rattle.std.specs.Bool.{MatchBool}
use Rattle.p11_lines.specs.declared.answer.Answer.{Answer}
use Rattle.p11_lines.specs.declared.answer.Answer.TheVariants as answers
use Rattle.p11_lines.specs.declared.fault.Fault.TheVariants.{BadLine, TooMany}
use Rattle.p11_lines.specs.declared.line.Line.{Line}
use Rattle.p11_lines.specs.declared.line.Line.TheVariants as lines
use Rattle.p11_lines.specs.Calls.LineText.{FitsGrammar}
use Rattle.p11_lines.specs.Grammar.{line_from}
use Rattle.p11_cpu.specs.State.{State}
use Rattle.p11_panel.specs.declared.command.Command.{Command}
use Rattle.p11_panel.specs.declared.command.Command.TheVariants as commands
use Rattle.p11_panel.specs.Calls.Runs.{run_command}
use Rattle.p11_panel.specs.Commands.{CommandStep}
use Rattle.p11_panel.specs.Session.{SessionState, with_store, Obeys, has_answer}
use Rattle.p11_store.specs.Store.{StoreState}
use Rattle.p11_dialogue.specs.LineKinds.{kind_of_line, script_name}
use Rattle.p11_dialogue.specs.Record.{ended, recorded}
use Rattle.p11_dialogue.specs.Runs.{run_of, talk_of, typed_in}
use Rattle.p11_console.specs.Tries.{Acts, Does, DoesLine, Saves, Tries, TriesLine, TriesOr, TriesRun, TriesUnmount, command_of, run_begun, activity_saved}
use Rattle.p11_dialogue.specs.declared.line_kind.LineKind.{LineKind}
use Rattle.p11_dialogue.specs.declared.line_kind.LineKind.TheVariants as kinds
use Rattle.p11_dialogue.specs.declared.settings.Trying.{Trying}
use Rattle.p11_dialogue.specs.declared.activity.Activity.{Activity}
use Rattle.p11_dialogue.specs.declared.activity.Activity.TheVariants as activities
use Rattle.p11_records.specs.Dialogue.{typed_on}
use Rattle.p11_records.proofs.LinesFit.{line_fits}
use Rattle.p11_records.proofs.ShortLines.{IsSmall, few_deposited, few_keys}
use Rattle.p11_records.proofs.OutcomeLemmas.{Answers, refused_leaves, runs, save_leaves}
use Rattle.p11_records.proofs.RecordLemmas.{Again}
use Rattle.p11_records.proofs.RunLemmas.{refused_run}
use Rattle.p11_records.proofs.TypedCommands.{run_leaves_none, step_stays}
use Rattle.p11_records.proofs.UnderWay.{Holds, IsFetching, goes, line_holds, more_none, plain_holds, run_holds, told_holds}

-- what holds once something is brought under way
abbrev pub Brings : {A : Type 0} → Activity A → List ℕ → List ℕ → State → StoreState → SessionState → Type 0
Brings activity text typed machine store t = Holds activity text (typed ++ typed_on activity) machine store t

-- it is this way, over this machine
pub is_activity : {A : Type 0} (activity activity' : Activity A) (text typed : List ℕ) (machine machine' : State) (store : StoreState) (t : SessionState) → activity' ≡ activity → machine' ≡ machine → Brings activity text typed machine store t → Brings activity' text typed machine' store t
is_activity {A} activity activity' text typed machine machine' store t e same h =
    subst (λ (w : Activity A). Brings w text typed machine' store t) (sym e) (subst (λ (m : State). Brings activity text typed m store t) (sym same) h)

-- A LINE OF THE LANGUAGE

-- a command that is no run does what its line asks for
acts : {A : Type 0} (line : Line A) (command : Command A) (activity : Activity A) (text typed : List ℕ) (machine machine' : State) (store : StoreState) (t : SessionState) → runs command ≡ false → FitsGrammar line
    → ((answer : Answer A) → CommandStep machine command answer machine' → Answers answer → IsSmall line)
    → ((answer : Answer A) → CommandStep machine command answer machine' → Obeys line (with_store machine store) answer (with_store machine' store))
    → machine.bus.typed ≡ [] → Again A text typed (with_store machine store) t → Acts command (ended line) machine activity machine' → Brings activity text typed machine' store t
unfolding Acts
acts {A} line command activity text typed machine machine' store t no_run fits small obeys clean done (answer, step, is) =
    is_activity (activities.Telling answer (recorded (ended line) answer) tt) activity text typed machine' machine' store t is refl
    (line_holds line answer text typed machine machine' store store t (step_stays command answer machine machine' no_run step ∙ clean) fits (small answer step)
    (λ fault e. (refused_leaves command fault machine machine' no_run (subst (λ (a : Answer A). CommandStep machine command a machine') e step), refl)) done (obeys answer step))

-- a run that is made at once
whole : {A : Type 0} (line : Line A) (until_idle : Bool) (n : ℕ) (activity : Activity A) (text typed : List ℕ) (machine machine' : State) (store : StoreState) (t : SessionState)
    → FitsGrammar line → IsSmall line
    → ((answer : Answer A) → CommandStep machine (run_command until_idle n) answer machine' → Obeys line (with_store machine store) answer (with_store machine' store))
    → machine.bus.typed ≡ [] → Again A text typed (with_store machine store) t → Acts (run_command until_idle n) (ended line) machine activity machine' → Brings activity text typed machine' store t
unfolding Acts
whole {A} line until_idle n activity text typed machine machine' store t fits small obeys clean done (answer, step, is) =
    is_activity (activities.Telling answer (recorded (ended line) answer) tt) activity text typed machine' machine' store t is refl
    (line_holds line answer text typed machine machine' store store t (run_leaves_none until_idle n answer machine machine' clean step) fits (λ _. small)
    (λ fault e. (refused_run A until_idle n fault machine machine' (subst (λ (a : Answer A). CommandStep machine (run_command until_idle n) a machine') e step), refl)) done (obeys answer step))

begun_if : {A : Type 0} (none : Bool) (turns : ℕ) (until_idle : Bool) (text typed : List ℕ) (machine : State) (store : StoreState) (t : SessionState) → machine.bus.typed ≡ [] → Again A text typed (with_store machine store) t → Brings {A = A} (if none then activities.Telling (answers.Refused TooMany) [] tt else activities.Running (run_of turns until_idle)) text typed machine store t
unfolding run_of typed_in
begun_if {A} true turns until_idle text typed machine store t clean done = told_holds {A = A} TooMany text typed machine store t clean done
begun_if {A} false turns until_idle text typed machine store t clean done = run_holds {A = A} (run_of turns until_idle) text typed machine store t clean (goes A text typed machine store t clean done)

-- a run of so many turns begins, or is refused
pub begun_holds : {A : Type 0} (turns : ℕ) (until_idle : Bool) (text typed : List ℕ) (machine : State) (store : StoreState) (t : SessionState) → machine.bus.typed ≡ [] → Again A text typed (with_store machine store) t → Brings {A = A} (run_begun turns until_idle) text typed machine store t
unfolding run_begun
begun_holds {A} turns until_idle text typed machine store t clean done =
    begun_if {A = A} (turns == 0 || nat_lt 100000000 turns) turns until_idle text typed machine store t clean done

pub talk_holds : {A : Type 0} (text typed : List ℕ) (machine : State) (store : StoreState) (t : SessionState) → machine.bus.typed ≡ [] → Again A text typed (with_store machine store) t → Brings {A = A} (activities.Running talk_of) text typed machine store t
unfolding talk_of
talk_holds {A} text typed machine store t clean done = run_holds {A = A} talk_of text typed machine store t clean (goes A text typed machine store t clean done)

run_if : {A : Type 0} (is_whole : Bool) (line : Line A) (until_idle : Bool) (n : ℕ) (activity : Activity A) (text typed : List ℕ) (machine machine' : State) (store : StoreState) (t : SessionState)
    → FitsGrammar line → IsSmall line
    → ((answer : Answer A) → CommandStep machine (run_command until_idle n) answer machine' → Obeys line (with_store machine store) answer (with_store machine' store))
    → machine.bus.typed ≡ [] → Again A text typed (with_store machine store) t
    → MatchBool is_whole (Acts (run_command until_idle n) (ended line) machine activity machine') ((activity ≡ run_begun n until_idle) × (machine' ≡ machine)) → Brings activity text typed machine' store t
run_if true line until_idle n activity text typed machine machine' store t fits small obeys clean done h = whole line until_idle n activity text typed machine machine' store t fits small obeys clean done h
run_if {A} false line until_idle n activity text typed machine machine' store t fits small obeys clean done h =
    is_activity (run_begun n until_idle) activity text typed machine machine' store t h.0 h.1 (begun_holds {A = A} n until_idle text typed machine store t clean done)

-- a line that waits for its file
waits : {A : Type 0} (line : Line A) (activity : Activity A) (text typed : List ℕ) (machine machine' : State) (store : StoreState) (t : SessionState) → Brings (activities.Fetching line (ended line)) text typed machine store t → (activity ≡ activities.Fetching line (ended line)) × (machine' ≡ machine) → Brings activity text typed machine' store t
waits line activity text typed machine machine' store t h e = is_activity (activities.Fetching line (ended line)) activity text typed machine machine' store t e.0 e.1 h

image_saved : {A : Type 0} (is_saveless is_agreed : Bool) (drive : ℕ) (name image text typed : List ℕ) (machine : State) (store : StoreState) (t : SessionState) → FitsGrammar {A = A} (lines.Save drive name) → machine.bus.typed ≡ [] → CommandStep {A = A} machine (commands.Save drive) (answers.Image image) machine → Again A text typed (with_store machine store) t
    → Brings {A = A} (if is_saveless then activities.Telling answers.Done [] tt else activities.Putting (lines.Save drive name) image (ended {A = A} (lines.Save drive name)) is_agreed) text typed machine store t
unfolding typed_in
image_saved {A} true is_agreed drive name image text typed machine store t fits clean step done =
    record { clean = clean; stands = subst (λ (x : List ℕ). Again A x (typed ++ []) (with_store machine store) t) (sym (append-nil text)) (more_none A text typed (with_store machine store) t done) }
image_saved {A} false is_agreed drive name image text typed machine store t fits clean step done =
    record { clean = clean; stands = (more_none A text typed (with_store machine store) t done, refl, step, fits) }

-- SAVE: the image waits for its file, and any other answer is told
saved_as : {A : Type 0} (how : Trying) (drive : ℕ) (name : List ℕ) (answer : Answer A) (text typed : List ℕ) (machine machine' : State) (store : StoreState) (t : SessionState) → FitsGrammar {A = A} (lines.Save drive name) → machine' ≡ machine → machine'.bus.typed ≡ [] → CommandStep machine (commands.Save drive) answer machine' → Again A text typed (with_store machine store) t
    → Brings (activity_saved how (lines.Save drive name) (ended {A = A} (lines.Save drive name)) answer) text typed machine' store t
unfolding activity_saved Obeys
saved_as {A} how drive name (answers.Image image) text typed machine machine' store t fits same clean step done =
    image_saved {A = A} how.is_saveless (not how.is_asking) drive name image text typed machine' store t fits clean
    (subst (λ (m : State). CommandStep {A = A} m (commands.Save drive) (answers.Image image) machine') (sym same) step)
    (subst (λ (m : State). Again A text typed (with_store m store) t) (sym same) done)
saved_as {A} how drive name answer text typed machine machine' store t fits same clean step done =
    line_holds {A = A} (lines.Save drive name) answer text typed machine machine' store store t clean fits (λ _. tt) (λ fault e. (same, refl)) done (answer, step, (refl, refl))

saves : {A : Type 0} (how : Trying) (drive : ℕ) (name : List ℕ) (activity : Activity A) (text typed : List ℕ) (machine machine' : State) (store : StoreState) (t : SessionState) → FitsGrammar {A = A} (lines.Save drive name) → machine.bus.typed ≡ [] → Again A text typed (with_store machine store) t
    → Saves how drive (lines.Save drive name) (ended {A = A} (lines.Save drive name)) machine activity machine' → Brings activity text typed machine' store t
unfolding Saves
saves {A} how drive name activity text typed machine machine' store t fits clean done (answer, step, is) =
    is_activity (activity_saved how (lines.Save drive name) (ended {A = A} (lines.Save drive name)) answer) activity text typed machine' machine' store t is refl
    (saved_as {A = A} how drive name answer text typed machine machine' store t fits (save_leaves drive machine answer machine' step) (step_stays (commands.Save drive) answer machine machine' refl step ∙ clean) step done)

fetches : {A : Type 0} (line : Line A) (text typed : List ℕ) (machine : State) (store : StoreState) (t : SessionState) → machine.bus.typed ≡ [] → Again A text typed (with_store machine store) t → IsFetching line → FitsGrammar line → Brings (activities.Fetching line (ended line)) text typed machine store t
fetches {A} line text typed machine store t clean done fetching fits = record { clean = clean; stands = (more_none A text typed (with_store machine store) t done, refl, fetching, fits) }

-- a pack is taken off
pub takes_off : {A : Type 0} (drive : ℕ) (activity : Activity A) (text typed : List ℕ) (machine machine' : State) (store : StoreState) (t : SessionState) → FitsGrammar {A = A} (lines.Unmount drive) → machine.bus.typed ≡ [] → Again A text typed (with_store machine store) t → Acts (commands.Unmount drive) (ended {A = A} (lines.Unmount drive)) machine activity machine' → Brings activity text typed machine' store t
unfolding Obeys
takes_off {A} drive w x y m m' s t f c d h = acts {A = A} (lines.Unmount drive) (commands.Unmount drive) w x y m m' s t refl f (λ answer step answers_it. tt) (λ answer step. (step, refl)) c d h

unmount_tried : {A : Type 0} (is_asking : Bool) (drive : ℕ) (activity : Activity A) (text typed : List ℕ) (machine machine' : State) (store : StoreState) (t : SessionState) → FitsGrammar {A = A} (lines.Unmount drive) → machine.bus.typed ≡ [] → Again A text typed (with_store machine store) t
    → MatchBool is_asking ((activity ≡ activities.Unmounting drive false) × (machine' ≡ machine)) (Acts (commands.Unmount drive) (ended {A = A} (lines.Unmount drive)) machine activity machine') → Brings activity text typed machine' store t
unmount_tried {A} true drive w x y m m' s t f c d h =
    is_activity (activities.Unmounting drive false) w x y m m' s t h.0 h.1 (record { clean = c; stands = (more_none A x y (with_store m s) t d, f) })
unmount_tried {A} false drive w x y m m' s t f c d h = takes_off {A = A} drive w x y m m' s t f c d h

line_tried : {A : Type 0} (how : Trying) (line : Line A) (activity : Activity A) (text typed : List ℕ) (machine machine' : State) (store : StoreState) (t : SessionState) → FitsGrammar line → machine.bus.typed ≡ [] → Again A text typed (with_store machine store) t → TriesLine how line machine activity machine' → Brings activity text typed machine' store t
unfolding TriesLine TriesRun TriesUnmount Obeys command_of
line_tried how (lines.Step n) w x y m m' s t f c d h = run_if how.is_whole (lines.Step n) false n w x y m m' s t f tt (λ answer step. (step, refl)) c d h
line_tried how (lines.Continue n) w x y m m' s t f c d h = run_if how.is_whole (lines.Continue n) true n w x y m m' s t f tt (λ answer step. (step, refl)) c d h
line_tried {A} how (lines.Save drive name) w x y m m' s t f c d h = saves {A = A} how drive name w x y m m' s t f c d h
line_tried {A} how (lines.Mount drive name protect) w x y m m' s t f c d h = waits {A = A} (lines.Mount drive name protect) w x y m m' s t (fetches {A = A} (lines.Mount drive name protect) x y m s t c d tt f) h
line_tried {A} how (lines.Load name) w x y m m' s t f c d h = waits {A = A} (lines.Load name) w x y m m' s t (fetches {A = A} (lines.Load name) x y m s t c d tt f) h
line_tried {A} how (lines.Unmount a) w x y m m' s t f c d h = unmount_tried {A = A} how.is_asking a w x y m m' s t f c d h
line_tried how (lines.Changed a) w x y m m' s t f c d h = acts (lines.Changed a) (commands.Changed a) w x y m m' s t refl f (λ answer step answers_it. tt) (λ answer step. (step, refl)) c d h
line_tried how (lines.Examine a b) w x y m m' s t f c d h = acts (lines.Examine a b) (commands.Examine a b) w x y m m' s t refl f (λ answer step answers_it. tt) (λ answer step. (step, refl)) c d h
line_tried how (lines.Deposit a b) w x y m m' s t f c d h = acts (lines.Deposit a b) (commands.Deposit a b) w x y m m' s t refl f (λ answer step answers_it. few_deposited a b answer m m' answers_it step) (λ answer step. (step, refl)) c d h
line_tried how (lines.Start a) w x y m m' s t f c d h = acts (lines.Start a) (commands.Start a) w x y m m' s t refl f (λ answer step answers_it. tt) (λ answer step. (step, refl)) c d h
line_tried how (lines.Key a) w x y m m' s t f c d h = acts (lines.Key a) (commands.Key a) w x y m m' s t refl f (λ answer step answers_it. few_keys a answer m m' answers_it step) (λ answer step. (step, refl)) c d h
line_tried how lines.Tick w x y m m' s t f c d h = acts lines.Tick commands.Tick w x y m m' s t refl f (λ answer step answers_it. tt) (λ answer step. (step, refl)) c d h
line_tried how (lines.Clock a) w x y m m' s t f c d h = acts (lines.Clock a) (commands.Clock a) w x y m m' s t refl f (λ answer step answers_it. tt) (λ answer step. (step, refl)) c d h
line_tried how (lines.Switches a) w x y m m' s t f c d h = acts (lines.Switches a) (commands.Switches a) w x y m m' s t refl f (λ answer step answers_it. tt) (λ answer step. (step, refl)) c d h
line_tried how (lines.Set a b) w x y m m' s t f c d h = acts (lines.Set a b) (commands.Set a b) w x y m m' s t refl f (λ answer step answers_it. tt) (λ answer step. (step, refl)) c d h
line_tried how lines.Regs w x y m m' s t f c d h = acts lines.Regs commands.Regs w x y m m' s t refl f (λ answer step answers_it. tt) (λ answer step. (step, refl)) c d h
line_tried how lines.Device w x y m m' s t f c d h = acts lines.Device commands.Device w x y m m' s t refl f (λ answer step answers_it. tt) (λ answer step. (step, refl)) c d h
line_tried how lines.Flush w x y m m' s t f c d h = acts lines.Flush commands.Flush w x y m m' s t refl f (λ answer step answers_it. tt) (λ answer step. (step, refl)) c d h

-- A TEXT

found_tried : {A : Type 0} (how : Trying) (found : Option (Line A)) (activity : Activity A) (text typed : List ℕ) (machine machine' : State) (store : StoreState) (t : SessionState) → ((line : Line A) → found ≡ Some line → FitsGrammar line) → machine.bus.typed ≡ [] → Again A text typed (with_store machine store) t → TriesOr how found machine activity machine' → Brings activity text typed machine' store t
unfolding typed_in
found_tried {A} how None activity text typed machine machine' store t fit clean done h =
    is_activity (activities.Telling (answers.Refused BadLine) [] tt) activity text typed machine machine' store t h.0 h.1 (told_holds {A = A} BadLine text typed machine store t clean done)
found_tried how (Some line) activity text typed machine machine' store t fit clean done h = line_tried how line activity text typed machine machine' store t (fit line refl) clean done h

answered_tried : {A : Type 0} (how : Trying) (b : Bool) (found : Option (Line A)) (activity : Activity A) (text typed : List ℕ) (machine machine' : State) (store : StoreState) (t : SessionState) → ((line : Line A) → found ≡ Some line → FitsGrammar line) → machine.bus.typed ≡ [] → Again A text typed (with_store machine store) t → MatchBool b (TriesOr how found machine activity machine') ((activity ≡ activities.Free) × (machine' ≡ machine)) → Brings activity text typed machine' store t
answered_tried how true found activity text typed machine machine' store t fit clean done h = found_tried how found activity text typed machine machine' store t fit clean done h
answered_tried how false found activity text typed machine machine' store t fit clean done h =
    is_activity activities.Free activity text typed machine machine' store t h.0 h.1 (plain_holds activities.Free text typed machine store t refl clean done)

pub text_tried : {A : Type 0} (how : Trying) (line : List ℕ) (activity : Activity A) (text typed : List ℕ) (machine machine' : State) (store : StoreState) (t : SessionState) → machine.bus.typed ≡ [] → Again A text typed (with_store machine store) t → Tries how line machine activity machine' → Brings activity text typed machine' store t
unfolding Tries
text_tried how line activity text typed machine machine' store t clean done h = answered_tried how (has_answer line) (line_from line) activity text typed machine machine' store t (λ found e. line_fits line found e) clean done h

kind_done : {A : Type 0} (word : LineKind) (how : Trying) (line : List ℕ) (activity : Activity A) (text typed : List ℕ) (machine machine' : State) (store : StoreState) (t : SessionState) → machine.bus.typed ≡ [] → Again A text typed (with_store machine store) t → Does word how line machine activity machine' → Brings activity text typed machine' store t
kind_done {A} kinds.Talk how line activity text typed machine machine' store t clean done h =
    is_activity (activities.Running talk_of) activity text typed machine machine' store t h.0 h.1 (talk_holds {A = A} text typed machine store t clean done)
kind_done {A} kinds.Once how line activity text typed machine machine' store t clean done h =
    is_activity (run_begun 1 false) activity text typed machine machine' store t h.0 h.1 (begun_holds {A = A} 1 false text typed machine store t clean done)
kind_done kinds.Quit how line activity text typed machine machine' store t clean done h =
    is_activity activities.Leaving activity text typed machine machine' store t h.0 h.1 (plain_holds activities.Leaving text typed machine store t refl clean done)
kind_done kinds.Help how line activity text typed machine machine' store t clean done h =
    is_activity (activities.Helping tt) activity text typed machine machine' store t h.0 h.1 (plain_holds (activities.Helping tt) text typed machine store t refl clean done)
kind_done kinds.Do how line activity text typed machine machine' store t clean done h =
    is_activity (activities.Opening (script_name line)) activity text typed machine machine' store t h.0 h.1 (plain_holds (activities.Opening (script_name line)) text typed machine store t refl clean done)
kind_done kinds.Language how line activity text typed machine machine' store t clean done h = text_tried how line activity text typed machine machine' store t clean done h

pub line_done : {A : Type 0} (how : Trying) (line : List ℕ) (activity : Activity A) (text typed : List ℕ) (machine machine' : State) (store : StoreState) (t : SessionState) → machine.bus.typed ≡ [] → Again A text typed (with_store machine store) t → DoesLine how line machine activity machine' → Brings activity text typed machine' store t
unfolding DoesLine
line_done how line activity text typed machine machine' store t clean done h = kind_done (kind_of_line line) how line activity text typed machine machine' store t clean done h
