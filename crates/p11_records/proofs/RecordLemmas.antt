-- The lines of a record do again what was done.
use Rattle.std.proofs.Common.{◌≡◌, ℕ, zero, suc, All, map, Bool, true, false, ◌==◌, if◌then◌else◌, List, [], ◌∷◌, ◌++◌, Option, Some, refl, sym, ap, subst, ◌∙◌, append-nil, arith, inl, inr}
use Rattle.std.specs.List.{flat_map}
use Rattle.std.proofs.lemmas.Grind.{flat_map-append}
use Rattle.std.proofs.lemmas.List.Elements.{All-nil, All-cons}
use Rattle.p11_lines.specs.declared.answer.Answer.{Answer}
use Rattle.p11_lines.specs.declared.answer.Answer.TheVariants as answers
use Rattle.p11_lines.specs.declared.line.Line.{Line}
use Rattle.p11_lines.specs.declared.line.Line.TheVariants as lines
use Rattle.p11_lines.specs.Calls.LineText.{line_text}
use Rattle.p11_cpu.specs.State.{State}
use Rattle.p11_panel.specs.declared.command.Command.{Command}
use Rattle.p11_panel.specs.declared.command.Command.TheVariants as commands
use Rattle.p11_panel.specs.Commands.{CommandStep}
use Rattle.p11_panel.specs.Script.{script_lines}
use Rattle.p11_panel.specs.Session.{LineDoes, LinesRun, SessionState, with_store, Obeys, OnFile, Keeps, fault_of}
use Rattle.p11_store.specs.Store.{StoreState, FailsToFetch, Has, KeepsOthers, Puts, asked, with_call}
use Rattle.p11_store.specs.declared.store.StoreError.{StoreError}
use Rattle.p11_store.specs.declared.store.StoreError.TheVariants as errors
use Rattle.p11_dialogue.specs.Record.{ended, run_text}
use Rattle.p11_dialogue.specs.Runs.{typed_in}
use Rattle.p11_records.specs.Again.{Alike, AreAsked, IsOfScript}
use Rattle.p11_records.proofs.OutcomeLemmas.{Answers}
use Rattle.p11_records.proofs.ScriptLemmas.{asked as lines_asked}

-- THE SAME OVER A SESSION THAT IS ALIKE

-- a line with this answer is done again
abbrev Repeats : {A : Type 0} → Line A → Answer A → SessionState → SessionState → Type 0
Repeats line answer s' t = (t' : SessionState) × Obeys line t answer t' × Alike s' t'

-- a command does the same
same_step : {A : Type 0} (command : Command A) (answer : Answer A) (s t : SessionState) (after : State) → Alike s t → CommandStep s.machine command answer after → CommandStep t.machine command answer after
same_step command answer s t after alike h = subst (λ (m : State). CommandStep m command answer after) (sym alike.0) h

commanded : {A : Type 0} (command : Command A) (answer : Answer A) (s s' t : SessionState) → Alike s t → CommandStep s.machine command answer s'.machine × (s'.store ≡ s.store) → (t' : SessionState) × (CommandStep t.machine command answer t'.machine × (t'.store ≡ t.store)) × Alike s' t'
commanded command answer s s' t alike h = (
  with_store s'.machine t.store,
  (same_step command answer s t s'.machine alike h.0, refl),
  (refl, alike.1 ∙ sym (ap (λ (x : StoreState). x.files) h.1)),
)

on_file : {A : Type 0} (name : List ℕ) (command : List ℕ → Command A) (answer : Answer A) (s s' t : SessionState) → Answers answer → Alike s t → OnFile name command s answer s' → (t' : SessionState) × OnFile name command t answer t' × Alike s' t'
on_file name command answer s s' t answers_it alike (inl h) = (
  with_store s'.machine (asked name false t.store),
  inl (h.0, (subst (λ (files : Option (List ℕ → Option (List ℕ))). Has files name (Some h.0)) (sym alike.1) h.1.0, refl), same_step (command h.0) answer s t s'.machine alike h.2),
  (refl, alike.1 ∙ sym (ap (λ (x : StoreState). x.files) h.1.1)),
)
on_file name command answer s s' t answers_it alike (inr h) = absurd (answers_it (fault_of h.0) h.2)

-- what a put leaves, beside the calls of another store
put : List ℕ → StoreState → StoreState → StoreState
put name s' t = record { files = s'.files; refusals = t.refusals; calls = with_call true name false t.calls }

puts : (name image : List ℕ) (s s' t : StoreState) → t.files ≡ s.files → Puts s name image s' → Puts t name image (put name s' t)
unfolding put
puts name image s s' t files h =
    (h.0, subst (λ (old : Option (List ℕ → Option (List ℕ))). KeepsOthers old name s'.files) (sym files) h.1, refl, refl)

put_files : (name : List ℕ) (s' t : StoreState) → (put name s' t).files ≡ s'.files
unfolding put
put_files name s' t = refl

-- SAVE: its answer, and what is done with it
abbrev Saves : {A : Type 0} → ℕ → List ℕ → Answer A → SessionState → Answer A → SessionState → Type 0
Saves drive name shown s answer s' = CommandStep s.machine (commands.Save drive) shown s'.machine × Keeps name shown s.store answer s'.store

saved : {A : Type 0} (drive : ℕ) (name : List ℕ) (shown answer : Answer A) (s s' t : SessionState) → Answers answer → Alike s t → Saves drive name shown s answer s' → (t' : SessionState) × Saves drive name shown t answer t' × Alike s' t'
saved drive name (answers.Image image) answer s s' t answers_it alike (h, inl kept) = (
  with_store s'.machine (put name s'.store t.store),
  (same_step (commands.Save drive) (answers.Image image) s t s'.machine alike h, inl (puts name image s.store s'.store t.store alike.1 kept.0, kept.1)),
  (refl, put_files name s'.store t.store),
)
saved drive name (answers.Image image) answer s s' t answers_it alike (h, inr kept) = absurd (answers_it _ kept.1)
saved drive name shown answer s s' t answers_it alike (h, kept) = (
  with_store s'.machine t.store,
  (same_step (commands.Save drive) shown s t s'.machine alike h, (kept.0, refl)),
  (refl, alike.1 ∙ sym (ap (λ (x : StoreState). x.files) kept.1)),
)

repeats : {A : Type 0} (line : Line A) (answer : Answer A) (s s' t : SessionState) → Answers answer → Alike s t → Obeys line s answer s' → Repeats line answer s' t
unfolding Obeys
repeats (lines.Mount drive name protect) answer s s' t e alike h = on_file name (λ image. commands.Mount drive image protect) answer s s' t e alike h
repeats (lines.Unmount drive) answer s s' t e alike h = commanded (commands.Unmount drive) answer s s' t alike h
repeats (lines.Save drive name) answer s s' t e alike h =
    let again = saved drive name h.0 answer s s' t e alike (h.1, h.2) in (again.0, (h.0, again.1.0, again.1.1), again.2)
repeats (lines.Changed drive) answer s s' t e alike h = commanded (commands.Changed drive) answer s s' t alike h
repeats (lines.Load name) answer s s' t e alike h = on_file name (λ tape. commands.Load tape) answer s s' t e alike h
repeats (lines.Examine address count) answer s s' t e alike h = commanded (commands.Examine address count) answer s s' t alike h
repeats (lines.Deposit address words) answer s s' t e alike h = commanded (commands.Deposit address words) answer s s' t alike h
repeats (lines.Start address) answer s s' t e alike h = commanded (commands.Start address) answer s s' t alike h
repeats (lines.Key text) answer s s' t e alike h = commanded (commands.Key text) answer s s' t alike h
repeats lines.Tick answer s s' t e alike h = commanded commands.Tick answer s s' t alike h
repeats (lines.Clock period) answer s s' t e alike h = commanded (commands.Clock period) answer s s' t alike h
repeats (lines.Switches word) answer s s' t e alike h = commanded (commands.Switches word) answer s s' t alike h
repeats (lines.Set register value) answer s s' t e alike h = commanded (commands.Set register value) answer s s' t alike h
repeats (lines.Step turns) answer s s' t e alike h = commanded (commands.Step turns) answer s s' t alike h
repeats (lines.Continue turns) answer s s' t e alike h = commanded (commands.Continue turns) answer s s' t alike h
repeats lines.Regs answer s s' t e alike h = commanded commands.Regs answer s s' t alike h
repeats lines.Device answer s s' t e alike h = commanded commands.Device answer s s' t alike h
repeats lines.Flush answer s s' t e alike h = commanded commands.Flush answer s s' t alike h

-- WHAT IS NOT RECORDED LEAVES NO TRACE

-- nothing is seen of it
abbrev pub Unseen : SessionState → SessionState → Type 0
Unseen s s' = (s'.machine ≡ s.machine) × (s'.store.files ≡ s.store.files)

still : (s s' t : SessionState) → Unseen s s' → Alike s t → Alike s' t
still s s' t same alike = (alike.0 ∙ sym same.0, alike.1 ∙ sym same.1)

pub failed : (name : List ℕ) (error : StoreError) (s s' : StoreState) → FailsToFetch s name error s' → s'.files ≡ s.files
failed name errors.Refused s s' h = ap (λ (x : StoreState). x.files) h.1
failed name errors.NoMemory s s' h = ap (λ (x : StoreState). x.files) h.1

-- LINES THAT DO AGAIN WHAT WAS DONE

-- lines with their answers, one after another
pub Obey : {A : Type 0} → List (Line A × Answer A) → SessionState → SessionState → Type 0
Obey [] s s' = s' ≡ s
Obey (done ∷ others) s s'' = (s' : SessionState) × Obeys done.0 s done.1 s' × Obey others s' s''

-- they are lines of a script
abbrev pub AreOfScript : {A : Type 0} → List (Line A × Answer A) → Type 0
AreOfScript [] = Unit {0}
AreOfScript (done ∷ others) = IsOfScript done.0 × AreOfScript others

-- they have this text, type these bytes, and come there
abbrev pub Again : Type 0 → List ℕ → List ℕ → SessionState → SessionState → Type 0
Again A text typed s' t =
    (again : List (Line A × Answer A)) × (t' : SessionState) × Obey again t t' × Alike s' t'
    × (flat_map (λ done. ended done.0) again ≡ text) × (flat_map (λ done. typed_in done.1) again ≡ typed) × AreOfScript again

pub none : (A : Type 0) (s t : SessionState) → Alike s t → Again A [] [] s t
unfolding Obey
none A s t alike = ([], t, refl, alike, refl, refl, tt)

-- what isn't seen is no matter
pub unseen : (A : Type 0) (text typed : List ℕ) (s s' t : SessionState) → Unseen s s' → Again A text typed s t → Again A text typed s' t
unseen A text typed s s' t same done = (done.0, done.1, done.2, still s s' done.1 same done.3, done.4, done.5, done.6)

one : {A : Type 0} (line : Line A) (answer : Answer A) (s' t : SessionState) → IsOfScript line → Repeats line answer s' t → Again A (ended line) (typed_in answer) s' t
unfolding Obey
one line answer s' t fits h =
    ((line, answer) ∷ [], h.0, (h.0, h.1, refl), h.2, append-nil (ended line), append-nil (typed_in answer), (fits, tt))

pub run_none : (A : Type 0) → run_text A zero ≡ []
unfolding run_text
run_none A =
    let same : (zero == 0) ≡ true = grind arith in
    ap (λ (b : Bool). if b then [] else line_text {A = A} (lines.Step zero) ++ 10 ∷ []) same

pub run_kept : (A : Type 0) (n : ℕ) → run_text A (suc n) ≡ ended {A = A} (lines.Step (suc n))
unfolding run_text ended
run_kept A n =
    let other : (suc n == 0) ≡ false = grind arith in
    ap (λ (b : Bool). if b then [] else line_text {A = A} (lines.Step (suc n)) ++ 10 ∷ []) other

obey_more : {A : Type 0} (first others : List (Line A × Answer A)) (s s' s'' : SessionState) → Obey first s s' → Obey others s' s'' → Obey (first ++ others) s s''
unfolding Obey
obey_more [] others s s' s'' h next = subst (λ (x : SessionState). Obey others x s'') h next
obey_more (done ∷ first) others s s' s'' h next = (h.0, h.1, obey_more first others h.0 s' s'' h.2 next)

joined : {X : Type 0} (f : X → List ℕ) (xs ys : List X) (a b : List ℕ) → flat_map f xs ≡ a → flat_map f ys ≡ b → flat_map f (xs ++ ys) ≡ a ++ b
joined f xs ys a b e h = flat_map-append f xs ys ∙ ap (λ (x : List ℕ). x ++ flat_map f ys) e ∙ ap (λ (y : List ℕ). a ++ y) h

all_of_script : {A : Type 0} (first others : List (Line A × Answer A)) → AreOfScript first → AreOfScript others → AreOfScript (first ++ others)
all_of_script [] others a b = b
all_of_script (done ∷ first) others a b = (a.0, all_of_script first others a.1 b)

both : {A : Type 0} (text more typed others : List ℕ) (s' s'' t : SessionState) → (first : Again A text typed s' t) → Again A more others s'' first.1 → Again A (text ++ more) (typed ++ others) s'' t
both text more typed others s' s'' t first next = (
  first.0 ++ next.0,
  next.1,
  obey_more first.0 next.0 t first.1 next.1 first.2 next.2,
  next.3,
  joined (λ done. ended done.0) first.0 next.0 text more first.4 next.4,
  joined (λ done. typed_in done.1) first.0 next.0 typed others first.5 next.5,
  all_of_script first.0 next.0 first.6 next.6,
)

-- one line more, whose answer doesn't refuse
pub one_more : {A : Type 0} (text typed : List ℕ) (line : Line A) (answer : Answer A) (s s' t : SessionState) → IsOfScript line → Answers answer → Again A text typed s t → Obeys line s answer s' → Again A (text ++ ended line) (typed ++ typed_in answer) s' t
one_more {A} text typed line answer s s' t fits answers_it done h =
    both {A = A} text (ended line) typed (typed_in answer) s s' t done (one line answer s' done.1 fits (repeats line answer s s' done.1 answers_it done.3 h))

-- AS A SCRIPT

pub lines_of : {A : Type 0} → List (Line A × Answer A) → List (Line A)
lines_of again = map (λ done. done.0) again

pub answers_of : {A : Type 0} → List (Line A × Answer A) → List (Answer A)
answers_of again = map (λ done. done.1) again

fit_all : {A : Type 0} (again : List (Line A × Answer A)) → AreOfScript again → All IsOfScript (lines_of again)
unfolding lines_of
fit_all {A} [] fit = All-nil (IsOfScript {A = A})
fit_all {A} (done ∷ others) fit = All-cons (IsOfScript {A = A}) done.0 (lines_of others) fit.0 (fit_all others fit.1)

asked_for : {A : Type 0} (again : List (Line A × Answer A)) (s s' : SessionState) → Obey again s s' → AreAsked (lines_of again) s (answers_of again) s'
unfolding Obey AreAsked lines_of answers_of
asked_for [] s s' h = h
asked_for (done ∷ others) s s' h = (h.0, inl h.1, asked_for others h.0 s' h.2)

same_lines : {A : Type 0} (again : List (Line A × Answer A)) → flat_map ended (lines_of again) ≡ flat_map (λ done. ended done.0) again
unfolding lines_of
same_lines [] = refl
same_lines (done ∷ others) = ap (λ (x : List ℕ). ended done.0 ++ x) (same_lines others)

same_answers : {A : Type 0} (again : List (Line A × Answer A)) → flat_map typed_in (answers_of again) ≡ flat_map (λ done. typed_in done.1) again
unfolding answers_of
same_answers [] = refl
same_answers (done ∷ others) = ap (λ (x : List ℕ). typed_in done.1 ++ x) (same_answers others)

-- a session whose script has this text does so
pub played : (A : Type 0) (text typed : List ℕ) (s' t : SessionState) → Again A text typed s' t → (answers : List (Answer A)) × (t' : SessionState) × LinesRun (LineDoes {A = A}) (script_lines text) t answers t' × Alike s' t' × (flat_map typed_in answers ≡ typed)
played A text typed s' t done =
    let lines : List (Line A) = lines_of done.0 in
    let run : LinesRun (LineDoes {A = A}) (script_lines (flat_map ended lines)) t (answers_of done.0) done.1 =
    (lines_asked lines (answers_of done.0) t done.1 (fit_all done.0 done.6)).1 (asked_for done.0 t done.1 done.2) in
    (answers_of done.0, done.1, subst (λ (x : List ℕ). LinesRun (LineDoes {A = A}) (script_lines x) t (answers_of done.0) done.1) (same_lines done.0 ∙ done.4) run, done.3, same_answers done.0 ∙ done.5)
