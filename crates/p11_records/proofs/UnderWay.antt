-- What is so of a dialogue at each step of its console: what is recorded, with what is due, does again what was done.
use Rattle.std.proofs.Common.{◌≡◌, ℕ, zero, suc, ◌≤◌, Bool, true, false, List, [], ◌++◌, append-nil, refl, sym, ap, subst, ◌∙◌, arith}
use Rattle.p11_lines.specs.declared.answer.Answer.{Answer}
use Rattle.p11_lines.specs.declared.answer.Answer.TheVariants as answers
use Rattle.p11_lines.specs.declared.fault.Fault.{Fault}
use Rattle.p11_lines.specs.declared.line.Line.{Line}
use Rattle.p11_lines.specs.declared.line.Line.TheVariants as lines
use Rattle.p11_lines.specs.Calls.LineText.{FitsGrammar}
use Rattle.p11_cpu.specs.State.{State}
use Rattle.p11_cpu.specs.Turns.{after_turns}
use Rattle.p11_panel.specs.declared.command.Command.TheVariants as commands
use Rattle.p11_panel.specs.Commands.{CommandStep}
use Rattle.p11_panel.specs.Runs.{last_halted}
use Rattle.p11_panel.specs.Session.{SessionState, with_store, Obeys}
use Rattle.p11_store.specs.Store.{StoreState}
use Rattle.p11_dialogue.specs.Record.{ended, recorded, run_text}
use Rattle.p11_dialogue.specs.Runs.{typed_in}
use Rattle.p11_dialogue.specs.Behind.{activity_behind}
use Rattle.p11_dialogue.specs.declared.run.RunProgress.{RunProgress}
use Rattle.p11_dialogue.specs.declared.activity.Activity.{Activity}
use Rattle.p11_dialogue.specs.declared.activity.Activity.TheVariants as activities
use Rattle.p11_records.specs.Dialogue.{typed_on}
use Rattle.p11_records.specs.Again.{IsOfScript}
use Rattle.p11_records.proofs.ShortLines.{IsSmall, of_script}
use Rattle.p11_records.proofs.MergedLemmas.{Merged, merged_steps, none_halted, none_made, still_there}
use Rattle.p11_records.proofs.OutcomeLemmas.{Answers, no_stop}
use Rattle.p11_records.proofs.RecordLemmas.{Again, one_more, run_kept, run_none, unseen}

-- A RUN THAT ISN'T RECORDED YET: so many turns, behind what is recorded

pub record Open (A : Type 0) (text typed : List ℕ) (made : ℕ) (machine : State) (store : StoreState) (t : SessionState) : Type 0 where
  pub earlier : List ℕ
  pub during : List ℕ
  pub start : State
  pub done : Again A text earlier (with_store start store) t
  pub clean : start.bus.typed ≡ []
  pub run : Merged made during start machine
  pub all : typed ≡ earlier ++ during

-- none is made yet
pub opens : (A : Type 0) (text typed : List ℕ) (machine : State) (store : StoreState) (t : SessionState) → machine.bus.typed ≡ [] → Again A text typed (with_store machine store) t → Open A text typed 0 machine store t
opens A text typed machine store t clean done =
    record { earlier = typed; during = []; start = machine; done = done; clean = clean; run = none_made machine clean; all = sym (append-nil typed) }

same_text : (A : Type 0) (text other typed : List ℕ) (s t : SessionState) → other ≡ text → Again A text typed s t → Again A other typed s t
same_text A text other typed s t e done = subst (λ (x : List ℕ). Again A x typed s t) (sym e) done

same_typed : (A : Type 0) (text typed other : List ℕ) (s t : SessionState) → other ≡ typed → Again A text typed s t → Again A text other s t
same_typed A text typed other s t e done = subst (λ (x : List ℕ). Again A text x s t) (sym e) done

closes_none : (A : Type 0) (text typed : List ℕ) (machine : State) (store : StoreState) (t : SessionState) → Open A text typed 0 machine store t → Again A (text ++ run_text A 0) typed (with_store machine store) t
closes_none A text typed machine store t open_run =
    let still = still_there open_run.during open_run.start machine open_run.clean open_run.run in
    same_text A text (text ++ run_text A 0) typed (with_store machine store) t (ap (λ x. text ++ x) (run_none A) ∙ append-nil text)
    (same_typed A text open_run.earlier typed (with_store machine store) t (open_run.all ∙ ap (λ x. open_run.earlier ++ x) still.1 ∙ append-nil open_run.earlier)
    (unseen A text open_run.earlier (with_store open_run.start store) (with_store machine store) t (still.0, refl) open_run.done))

step_fits : (A : Type 0) (n : ℕ) → suc n ≤ 100000000 → IsOfScript {A = A} (lines.Step (suc n))
unfolding FitsGrammar
step_fits A n few = of_script {A = A} (lines.Step (suc n)) (omega arith, omega (arith, few)) tt

closes_some : (A : Type 0) (text typed : List ℕ) (n : ℕ) (machine : State) (store : StoreState) (t : SessionState) → Open A text typed (suc n) machine store t → Again A (text ++ run_text A (suc n)) typed (with_store machine store) t
unfolding Obeys typed_in
closes_some A text typed n machine store t open_run =
    let step = merged_steps A (suc n) open_run.during open_run.start machine (omega arith) open_run.run in
    let pc = (after_turns (suc n) open_run.start).processor.registers.pc in
    same_text A (text ++ ended {A = A} (lines.Step (suc n))) (text ++ run_text A (suc n)) typed (with_store machine store) t (ap (λ x. text ++ x) (run_kept A n))
    (same_typed A (text ++ ended {A = A} (lines.Step (suc n))) (open_run.earlier ++ open_run.during) typed (with_store machine store) t open_run.all
    (one_more {A = A} text open_run.earlier (lines.Step (suc n)) (answers.Stop open_run.during step.0 (suc n) pc) (with_store open_run.start store) (with_store machine store) t (step_fits A n open_run.run.few)
    (λ fault e. no_stop {A = A} open_run.during step.0 (suc n) pc fault e) open_run.done (step.1, refl)))

-- once it is recorded
pub closes : (A : Type 0) (text typed : List ℕ) (made : ℕ) (machine : State) (store : StoreState) (t : SessionState) → Open A text typed made machine store t → Again A (text ++ run_text A made) typed (with_store machine store) t
closes A text typed zero machine store t open_run = closes_none A text typed machine store t open_run
closes A text typed (suc n) machine store t open_run = closes_some A text typed n machine store t open_run

-- a run that goes on: its last turn didn't halt
pub record Going (A : Type 0) (text typed : List ℕ) (made : ℕ) (machine : State) (store : StoreState) (t : SessionState) : Type 0 where
  pub so_far : Open A text typed made machine store t
  pub running : last_halted made so_far.start ≡ false

pub goes : (A : Type 0) (text typed : List ℕ) (machine : State) (store : StoreState) (t : SessionState) → machine.bus.typed ≡ [] → Again A text typed (with_store machine store) t → Going A text typed 0 machine store t
unfolding opens
goes A text typed machine store t clean done =
    record { so_far = opens A text typed machine store t clean done; running = none_halted machine }

-- WHAT IS UNDER WAY

-- a line that waits for its file
abbrev pub IsFetching : {A : Type 0} → Line A → Type 0
IsFetching (lines.Mount drive name protect) = Unit {0}
IsFetching (lines.Load name) = Unit {0}
IsFetching line = ⊥

-- a line that waits until a file has the image of its drive
abbrev pub IsSaving : {A : Type 0} → Line A → List ℕ → State → Type 0
IsSaving {A} (lines.Save drive name) image machine = CommandStep {A = A} machine (commands.Save drive) (answers.Image image) machine
IsSaving line image machine = ⊥

abbrev pub Now : {A : Type 0} → Activity A → List ℕ → List ℕ → State → StoreState → SessionState → Type 0
Now {A} (activities.Running run) text typed machine store t = Going A text typed run.made machine store t
Now {A} (activities.Stopped stop more) text typed machine store t = Again A (text ++ more) typed (with_store machine store) t
Now {A} (activities.Telling answer more note) text typed machine store t = Again A (text ++ more) typed (with_store machine store) t
Now {A} (activities.Fetching line more) text typed machine store t =
    Again A text typed (with_store machine store) t × (more ≡ ended line) × IsFetching line × FitsGrammar line
Now {A} (activities.Putting line image more is_agreed) text typed machine store t =
    Again A text typed (with_store machine store) t × (more ≡ ended line) × IsSaving line image machine × FitsGrammar line
Now {A} (activities.Asking line image more) text typed machine store t =
    Again A text typed (with_store machine store) t × (more ≡ ended line) × IsSaving line image machine × FitsGrammar line
Now {A} (activities.Unmounting drive is_agreed) text typed machine store t =
    Again A text typed (with_store machine store) t × FitsGrammar {A = A} (lines.Unmount drive)
Now {A} (activities.Doubting drive) text typed machine store t =
    Again A text typed (with_store machine store) t × FitsGrammar {A = A} (lines.Unmount drive)
Now {A} activity text typed machine store t = Again A text typed (with_store machine store) t

abbrev pub Stands : {A : Type 0} → Activity A → List ℕ → List ℕ → State → StoreState → SessionState → Type 0
Stands (activities.Sliced run answer) text typed machine store t = Now (activity_behind run answer) text typed machine store t
Stands activity text typed machine store t = Now activity text typed machine store t

-- and no character that was typed waits
pub record Holds {A : Type 0} (activity : Activity A) (text typed : List ℕ) (machine : State) (store : StoreState) (t : SessionState) : Type 0 where
  pub clean : machine.bus.typed ≡ []
  pub stands : Stands activity text typed machine store t

-- what brings nothing under way that has to be recorded
abbrev pub is_plain_activity : {A : Type 0} → Activity A → Bool
is_plain_activity (activities.Running run) = false
is_plain_activity (activities.Sliced run answer) = false
is_plain_activity (activities.Stopped stop text) = false
is_plain_activity (activities.Telling answer text note) = false
is_plain_activity (activities.Fetching line text) = false
is_plain_activity (activities.Putting line image text is_agreed) = false
is_plain_activity (activities.Asking line image text) = false
is_plain_activity (activities.Unmounting drive is_agreed) = false
is_plain_activity (activities.Doubting drive) = false
is_plain_activity activity = true

pub more_none : (A : Type 0) (text typed : List ℕ) (s t : SessionState) → Again A text typed s t → Again A text (typed ++ []) s t
more_none A text typed s t done = same_typed A text typed (typed ++ []) s t (append-nil typed) done

plain_stands : {A : Type 0} (activity : Activity A) (text typed : List ℕ) (machine : State) (store : StoreState) (t : SessionState) → is_plain_activity activity ≡ true → Again A text typed (with_store machine store) t → Stands activity text (typed ++ typed_on activity) machine store t
plain_stands (activities.Running run) text typed machine store t e done = cc
plain_stands (activities.Sliced run answer) text typed machine store t e done = cc
plain_stands (activities.Stopped stop more) text typed machine store t e done = cc
plain_stands (activities.Telling answer more note) text typed machine store t e done = cc
plain_stands (activities.Fetching line more) text typed machine store t e done = cc
plain_stands (activities.Putting line image more is_agreed) text typed machine store t e done = cc
plain_stands (activities.Asking line image more) text typed machine store t e done = cc
plain_stands (activities.Unmounting drive is_agreed) text typed machine store t e done = cc
plain_stands (activities.Doubting drive) text typed machine store t e done = cc
plain_stands {A} activity text typed machine store t e done = more_none A text typed (with_store machine store) t done

pub plain_holds : {A : Type 0} (activity : Activity A) (text typed : List ℕ) (machine : State) (store : StoreState) (t : SessionState) → is_plain_activity activity ≡ true → machine.bus.typed ≡ [] → Again A text typed (with_store machine store) t → Holds activity text (typed ++ typed_on activity) machine store t
plain_holds activity text typed machine store t e clean done = record { clean = clean; stands = plain_stands activity text typed machine store t e done }

-- a run begins, or goes on
pub run_holds : {A : Type 0} (run : RunProgress) (text typed : List ℕ) (machine : State) (store : StoreState) (t : SessionState) → machine.bus.typed ≡ [] → Going A text typed run.made machine store t → Holds {A = A} (activities.Running run) text (typed ++ []) machine store t
run_holds {A} run text typed machine store t clean going =
    record { clean = clean; stands = subst (λ (x : List ℕ). Going A text x run.made machine store t) (sym (append-nil typed)) going }

-- nothing is recorded of what is told
pub told_holds : {A : Type 0} (fault : Fault) (text typed : List ℕ) (machine : State) (store : StoreState) (t : SessionState) → machine.bus.typed ≡ [] → Again A text typed (with_store machine store) t → Holds {A = A} (activities.Telling (answers.Refused fault) [] tt) text (typed ++ []) machine store t
told_holds {A} fault text typed machine store t clean done =
    record { clean = clean; stands = same_text A text (text ++ []) (typed ++ []) (with_store machine store) t (append-nil text) (more_none A text typed (with_store machine store) t done) }

-- a line that was done, by its answer: one that is refused leaves all as it was
line_stands : {A : Type 0} (line : Line A) (answer : Answer A) (text typed : List ℕ) (machine machine' : State) (store store' : StoreState) (t : SessionState) → FitsGrammar line → (Answers answer → IsSmall line) → ((fault : Fault) → answer ≡ answers.Refused fault → (machine' ≡ machine) × (store'.files ≡ store.files)) → Again A text typed (with_store machine store) t → Obeys line (with_store machine store) answer (with_store machine' store') → Again A (text ++ recorded (ended line) answer) (typed ++ typed_in answer) (with_store machine' store') t
unfolding recorded typed_in
line_stands {A} line (answers.Refused fault) text typed machine machine' store store' t fits small leaves done h =
    same_text A text (text ++ []) (typed ++ []) (with_store machine' store') t (append-nil text)
    (more_none A text typed (with_store machine' store') t (unseen A text typed (with_store machine store) (with_store machine' store') t (leaves fault refl) done))
line_stands line answer text typed machine machine' store store' t fits small leaves done h =
    one_more text typed line answer (with_store machine store) (with_store machine' store') t (of_script line fits (small (λ fault e. cc))) (λ fault e. cc) done h

pub line_holds : {A : Type 0} (line : Line A) (answer : Answer A) (text typed : List ℕ) (machine machine' : State) (store store' : StoreState) (t : SessionState) → machine'.bus.typed ≡ [] → FitsGrammar line → (Answers answer → IsSmall line) → ((fault : Fault) → answer ≡ answers.Refused fault → (machine' ≡ machine) × (store'.files ≡ store.files)) → Again A text typed (with_store machine store) t → Obeys line (with_store machine store) answer (with_store machine' store') → Holds {A = A} (activities.Telling answer (recorded (ended line) answer) tt) text (typed ++ typed_in answer) machine' store' t
line_holds line answer text typed machine machine' store store' t clean fits small leaves done h =
    record { clean = clean; stands = line_stands line answer text typed machine machine' store store' t fits small leaves done h }

-- OTHER FILES THAT ARE THE SAME

open_still : (A : Type 0) (text typed : List ℕ) (made : ℕ) (machine : State) (store store' : StoreState) (t : SessionState) → store'.files ≡ store.files → Going A text typed made machine store t → Going A text typed made machine store' t
open_still A text typed made machine store store' t e going =
    let r = going.so_far in
    record {
      so_far = record {
        earlier = r.earlier;
        during = r.during;
        start = r.start;
        done = unseen A text r.earlier (with_store r.start store) (with_store r.start store') t (refl, e) r.done;
        clean = r.clean;
        run = r.run;
        all = r.all;
      };
      running = going.running;
    }

now_still : {A : Type 0} (activity : Activity A) (text typed : List ℕ) (machine : State) (store store' : StoreState) (t : SessionState) → store'.files ≡ store.files → Now activity text typed machine store t → Now activity text typed machine store' t
now_still {A} (activities.Running run) text typed machine store store' t e h = open_still A text typed run.made machine store store' t e h
now_still {A} (activities.Stopped stop more) text typed machine store store' t e h = unseen A (text ++ more) typed (with_store machine store) (with_store machine store') t (refl, e) h
now_still {A} (activities.Telling answer more note) text typed machine store store' t e h = unseen A (text ++ more) typed (with_store machine store) (with_store machine store') t (refl, e) h
now_still {A} (activities.Fetching line more) text typed machine store store' t e h = (unseen A text typed (with_store machine store) (with_store machine store') t (refl, e) h.0, h.1, h.2, h.3)
now_still {A} (activities.Putting line image more is_agreed) text typed machine store store' t e h = (unseen A text typed (with_store machine store) (with_store machine store') t (refl, e) h.0, h.1, h.2, h.3)
now_still {A} (activities.Asking line image more) text typed machine store store' t e h = (unseen A text typed (with_store machine store) (with_store machine store') t (refl, e) h.0, h.1, h.2, h.3)
now_still {A} (activities.Unmounting drive is_agreed) text typed machine store store' t e h = (unseen A text typed (with_store machine store) (with_store machine store') t (refl, e) h.0, h.1)
now_still {A} (activities.Doubting drive) text typed machine store store' t e h = (unseen A text typed (with_store machine store) (with_store machine store') t (refl, e) h.0, h.1)
now_still {A} activity text typed machine store store' t e h = unseen A text typed (with_store machine store) (with_store machine store') t (refl, e) h

stands_still : {A : Type 0} (activity : Activity A) (text typed : List ℕ) (machine : State) (store store' : StoreState) (t : SessionState) → store'.files ≡ store.files → Stands activity text typed machine store t → Stands activity text typed machine store' t
stands_still (activities.Sliced run answer) text typed machine store store' t e h = now_still (activity_behind run answer) text typed machine store store' t e h
stands_still activity text typed machine store store' t e h = now_still activity text typed machine store store' t e h

pub holds_still : {A : Type 0} (activity : Activity A) (text typed : List ℕ) (machine : State) (store store' : StoreState) (t : SessionState) → store'.files ≡ store.files → Holds activity text typed machine store t → Holds activity text typed machine store' t
holds_still activity text typed machine store store' t e h = record { clean = h.clean; stands = stands_still activity text typed machine store store' t e h.stands }
