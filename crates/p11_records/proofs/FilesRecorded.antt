-- What the host gives and writes: what is recorded and due does again what was done.
use Rattle.std.proofs.Common.{◌≡◌, ℕ, Bool, true, false, List, [], ◌++◌, append-nil, Option, Some, None, Result, Ok, Err, refl, sym, ap, subst, ◌∙◌, inl}
use Rattle.p11_lines.specs.declared.answer.Answer.{Answer}
use Rattle.p11_lines.specs.declared.answer.Answer.TheVariants as answers
use Rattle.p11_lines.specs.declared.fault.Fault.{Fault}
use Rattle.p11_lines.specs.declared.fault.Fault.TheVariants.{StoreFault}
use Rattle.p11_lines.specs.declared.line.Line.{Line}
use Rattle.p11_lines.specs.declared.line.Line.TheVariants as lines
use Rattle.p11_lines.specs.Calls.LineText.{FitsGrammar}
use Rattle.p11_cpu.specs.State.{State}
use Rattle.p11_panel.specs.declared.command.Command.{Command}
use Rattle.p11_panel.specs.declared.command.Command.TheVariants as commands
use Rattle.p11_panel.specs.Commands.{CommandStep}
use Rattle.p11_panel.specs.Session.{SessionState, with_store, fault_of, Obeys}
use Rattle.p11_store.specs.Store.{StoreState}
use Rattle.p11_store.specs.declared.store.StoreError.{StoreError}
use Rattle.p11_console.specs.Files.{Gives, GivesLine, GivesScript, Names, Takes, TakesPut, file_command, file_name, image_in, opening, wanted, activity_missing}
use Rattle.p11_dialogue.specs.Manner.{is_batch}
use Rattle.p11_dialogue.specs.Record.{ended, recorded}
use Rattle.p11_dialogue.specs.Runs.{typed_in}
use Rattle.p11_console.specs.State.{ConsoleState}
use Rattle.p11_console.specs.Steps.{Completes}
use Rattle.p11_console.specs.Tries.{Acts, refused}
use Rattle.p11_console.specs.declared.trouble.PutFault.{PutFault}
use Rattle.p11_console.specs.declared.trouble.PutFault.TheVariants as puts
use Rattle.p11_dialogue.specs.declared.activity.Activity.{Activity}
use Rattle.p11_dialogue.specs.declared.activity.Activity.TheVariants as activities
use Rattle.p11_records.specs.Dialogue.{Gets, Keeps}
use Rattle.p11_records.proofs.ShortLines.{IsSmall}
use Rattle.p11_records.proofs.OutcomeLemmas.{runs as runs_turns, answered, refused_leaves, types_nothing}
use Rattle.p11_records.proofs.RecordLemmas.{Again, failed}
use Rattle.p11_records.proofs.TypedCommands.{step_stays}
use Rattle.p11_records.proofs.UnderWay.{Holds, IsFetching, IsSaving, Stands, holds_still, line_holds, plain_holds, told_holds}
use Rattle.p11_records.proofs.UnderWay.{more_none}
use Rattle.p11_records.proofs.StepsRecorded.{Held}

-- WHAT THE HOST GIVES

-- nothing is typed
abbrev pub Stays : {A : Type 0} → ConsoleState A → List ℕ → List ℕ → StoreState → SessionState → Type 0
Stays c taken typed store t = Holds c.activity (taken ++ c.journal) (typed ++ []) c.machine store t

pub no_more : {A : Type 0} (activity : Activity A) (text typed : List ℕ) (machine : State) (store : StoreState) (t : SessionState) → Holds activity text typed machine store t → Holds activity text (typed ++ []) machine store t
no_more activity text typed machine store t h = subst (λ (x : List ℕ). Holds activity text x machine store t) (sym (append-nil typed)) h

pub left : {A : Type 0} {c c' : ConsoleState A} (taken typed : List ℕ) (store store' : StoreState) (t : SessionState) → c' ≡ c → store'.files ≡ store.files → Held c taken typed store t → Stays c' taken typed store' t
left {A} {c} taken typed store store' t e files h =
    subst (λ (x : ConsoleState A). Stays x taken typed store' t) (sym e)
    (no_more c.activity (taken ++ c.journal) typed c.machine store' t (holds_still c.activity (taken ++ c.journal) typed c.machine store store' t files h))

gets_same : (file : Result (List ℕ) StoreError) (name : Option (List ℕ)) (s s' : StoreState) → Gets file name s s' → s'.files ≡ s.files
gets_same (Ok bytes) (Some name) s s' h = ap (λ (x : StoreState). x.files) h.1
gets_same (Err error) (Some name) s s' h = failed name error s s' h
gets_same (Ok bytes) None s s' h = ap (λ (x : StoreState). x.files) h
gets_same (Err error) None s s' h = ap (λ (x : StoreState). x.files) h

-- a line whose file was fetched
on_file : {A : Type 0} (line : Line A) (command : Command A) (more : List ℕ) (activity : Activity A) (text typed : List ℕ) (machine machine' : State) (store store' : StoreState) (t : SessionState) → runs_turns command ≡ false → FitsGrammar line → IsSmall line → store'.files ≡ store.files
    → ((answer : Answer A) → CommandStep machine command answer machine' → Obeys line (with_store machine store) answer (with_store machine' store'))
    → machine.bus.typed ≡ [] → more ≡ ended line → Again A text typed (with_store machine store) t → Acts command more machine activity machine' → Holds activity text (typed ++ []) machine' store' t
unfolding Acts
on_file {A} line command more activity text typed machine machine' store store' t no_run fits small files obeys clean e done (answer, step, is) =
    subst (λ (w : Activity A). Holds w text (typed ++ []) machine' store' t) (sym (is ∙ ap (λ (x : List ℕ). activities.Telling answer (recorded x answer) tt) e))
    (subst (λ (x : List ℕ). Holds (activities.Telling answer (recorded (ended line) answer) tt) text (typed ++ x) machine' store' t) (types_nothing machine answer machine' (answered machine command answer machine' no_run step))
    (line_holds line answer text typed machine machine' store store' t (step_stays command answer machine machine' no_run step ∙ clean) fits (λ _. small)
    (λ fault f. (refused_leaves command fault machine machine' no_run (subst (λ (a : Answer A). CommandStep machine command a machine') f step), files)) done (obeys answer step)))

not_had : {A : Type 0} (fault : Fault) (activity : Activity A) (text typed : List ℕ) (machine machine' : State) (store store' : StoreState) (t : SessionState) → machine.bus.typed ≡ [] → Again A text typed (with_store machine store) t → store'.files ≡ store.files → (activity ≡ refused (answers.Refused fault)) × (machine' ≡ machine) → Holds activity text (typed ++ []) machine' store' t
not_had {A} fault activity text typed machine machine' store store' t clean done files h =
    subst (λ (w : Activity A). Holds w text (typed ++ []) machine' store' t) (sym h.0)
    (subst (λ (m : State). Holds {A = A} (refused (answers.Refused fault)) text (typed ++ []) m store' t) (sym h.1)
    (holds_still {A = A} (refused (answers.Refused fault)) text (typed ++ []) machine store store' t files (told_holds {A = A} fault text typed machine store t clean done)))

gives_line : {A : Type 0} (file : Result (List ℕ) StoreError) (line : Line A) (more : List ℕ) (activity : Activity A) (text typed : List ℕ) (machine machine' : State) (store store' : StoreState) (t : SessionState) → machine.bus.typed ≡ [] → Again A text typed (with_store machine store) t → more ≡ ended line → IsFetching line → FitsGrammar line → GivesLine file line more machine activity machine' → Gets file (file_name line) store store' → Holds activity text (typed ++ []) machine' store' t
unfolding GivesLine file_command file_name Obeys
gives_line {A} (Ok bytes) (lines.Mount drive name protect) more activity text typed machine machine' store store' t clean done e waits fits h got =
    on_file {A = A} (lines.Mount drive name protect) (commands.Mount drive bytes protect) more activity text typed machine machine' store store' t refl fits tt (ap (λ (x : StoreState). x.files) got.1) (λ answer step. inl (bytes, got, step)) clean e done h
gives_line {A} (Ok bytes) (lines.Load name) more activity text typed machine machine' store store' t clean done e waits fits h got =
    on_file {A = A} (lines.Load name) (commands.Load bytes) more activity text typed machine machine' store store' t refl fits tt (ap (λ (x : StoreState). x.files) got.1) (λ answer step. inl (bytes, got, step)) clean e done h
gives_line (Err error) (lines.Mount drive name protect) more activity text typed machine machine' store store' t clean done e waits fits h got =
    not_had (fault_of error) activity text typed machine machine' store store' t clean done (failed name error store store' got) h
gives_line (Err error) (lines.Load name) more activity text typed machine machine' store store' t clean done e waits fits h got =
    not_had (fault_of error) activity text typed machine machine' store store' t clean done (failed name error store store' got) h
gives_line file line more activity text typed machine machine' store store' t clean done e waits fits h got = absurd waits

missing : {A : Type 0} (is_batch : Bool) (error : StoreError) (text typed : List ℕ) (machine : State) (store : StoreState) (t : SessionState) → machine.bus.typed ≡ [] → Again A text typed (with_store machine store) t → Holds (activity_missing {A = A} is_batch error) text (typed ++ []) machine store t
missing {A} true error text typed machine store t clean done = plain_holds {A = A} activities.Free text typed machine store t refl clean done
missing {A} false error text typed machine store t clean done = told_holds {A = A} (fault_of error) text typed machine store t clean done

became : {A : Type 0} {c c' : ConsoleState A} (taken typed : List ℕ) (store store' : StoreState) (t : SessionState) → c' ≡ c → store'.files ≡ store.files → Stays c taken typed store t → Stays c' taken typed store' t
became {A} {c} taken typed store store' t e files h =
    subst (λ (x : ConsoleState A). Stays x taken typed store' t) (sym e) (holds_still c.activity (taken ++ c.journal) (typed ++ []) c.machine store store' t files h)

gives_script : {A : Type 0} (file : Result (List ℕ) StoreError) (c c' : ConsoleState A) (taken typed : List ℕ) (store store' : StoreState) (t : SessionState) → c.machine.bus.typed ≡ [] → Again A (taken ++ c.journal) typed (with_store c.machine store) t → GivesScript file c c' → store'.files ≡ store.files → Stays c' taken typed store' t
gives_script (Ok bytes) c c' taken typed store store' t clean done h files = became taken typed store store' t h files (plain_holds activities.Free (taken ++ c.journal) typed c.machine store t refl clean done)
gives_script {A} (Err error) c c' taken typed store store' t clean done h files =
    became taken typed store store' t h files (missing {A = A} (is_batch c.settings.manner) error (taken ++ c.journal) typed c.machine store t clean done)

held_at : {A : Type 0} (activity : Activity A) (c : ConsoleState A) (taken typed : List ℕ) (store : StoreState) (t : SessionState) → c.activity ≡ activity → c.machine.bus.typed ≡ [] → Stands activity (taken ++ c.journal) typed c.machine store t → Held c taken typed store t
held_at {A} activity c taken typed store t e clean h =
    record { clean = clean; stands = subst (λ (w : Activity A). Stands w (taken ++ c.journal) typed c.machine store t) (sym e) h }

pub gives : {A : Type 0} (file : Result (List ℕ) StoreError) (activity : Activity A) (c c' : ConsoleState A) (taken typed : List ℕ) (store store' : StoreState) (t : SessionState) → c.activity ≡ activity → c.machine.bus.typed ≡ [] → Stands activity (taken ++ c.journal) typed c.machine store t → Gives file activity c c' → Gets file (wanted activity) store store' → Stays c' taken typed store' t
gives {A} file (activities.Fetching line more) c c' taken typed store store' t e clean done h got =
    subst (λ (x : ConsoleState A). Stays x taken typed store' t) (sym h.1)
    (gives_line file line more c'.activity (taken ++ c.journal) typed c.machine c'.machine store store' t clean done.0 done.1 done.2 done.3 h.0 got)
gives file (activities.Opening name) c c' taken typed store store' t e clean done h got = gives_script file c c' taken typed store store' t clean done h (gets_same file (Some name) store store' got)
gives file activity c c' taken typed store store' t e clean done h got = left taken typed store store' t h (gets_same file (wanted activity) store store' got) (held_at activity c taken typed store t e clean done)

-- THAT A FILE IS WRITTEN

keeps_none : (done : Result (Unit {0}) PutFault) (name : Option (List ℕ)) (s s' : StoreState) → Keeps done name None s s' → s' ≡ s
keeps_none (Ok done) None s s' h = h
keeps_none (Ok done) (Some name) s s' h = h
keeps_none (Err puts.There) None s s' h = h
keeps_none (Err puts.There) (Some name) s s' h = h
keeps_none (Err (puts.Refused reason)) None s s' h = h
keeps_none (Err (puts.Refused reason)) (Some name) s s' h = h

took : {A : Type 0} (done : Result (Unit {0}) PutFault) (line : Line A) (image more : List ℕ) (c c' : ConsoleState A) (taken typed : List ℕ) (store store' : StoreState) (t : SessionState) → c.machine.bus.typed ≡ [] → Again A (taken ++ c.journal) typed (with_store c.machine store) t → more ≡ ended line → IsSaving line image c.machine → FitsGrammar line → TakesPut done line image more c c' → Keeps done (file_name line) (Some image) store store' → Stays c' taken typed store' t
unfolding file_name Obeys typed_in recorded
took {A} (Ok written) (lines.Save drive name) image more c c' taken typed store store' t clean done e saving fits h kept =
    subst (λ (x : ConsoleState A). Stays x taken typed store' t) (sym h)
    (subst (λ (x : List ℕ). Holds {A = A} (activities.Telling answers.Done x tt) (taken ++ c.journal) (typed ++ []) c.machine store' t) (sym e)
    (line_holds {A = A} (lines.Save drive name) answers.Done (taken ++ c.journal) typed c.machine c.machine store store' t clean fits (λ _. tt) (λ fault f. cc) done (answers.Image image, saving, inl (kept, refl))))
took {A} (Err puts.There) (lines.Save drive name) image more c c' taken typed store store' t clean done e saving fits h kept =
    became taken typed store store' t h.1 (ap (λ (x : StoreState). x.files) kept)
    (record { clean = clean; stands = (more_none A (taken ++ c.journal) typed (with_store c.machine store) t done, e, saving, fits) })
took {A} (Err (puts.Refused reason)) (lines.Save drive name) image more c c' taken typed store store' t clean done e saving fits h kept =
    became taken typed store store' t h kept.1 (told_holds {A = A} StoreFault (taken ++ c.journal) typed c.machine store t clean done)
took done line image more c c' taken typed store store' t clean so_far e saving fits h kept = absurd saving

pub takes : {A : Type 0} (done : Result (Unit {0}) PutFault) (activity : Activity A) (c c' : ConsoleState A) (taken typed : List ℕ) (store store' : StoreState) (t : SessionState) → c.activity ≡ activity → c.machine.bus.typed ≡ [] → Stands activity (taken ++ c.journal) typed c.machine store t → Takes done activity c c' → Keeps done (wanted activity) (image_in activity) store store' → Stays c' taken typed store' t
takes done (activities.Putting line image more is_agreed) c c' taken typed store store' t e clean so_far h kept =
    took done line image more c c' taken typed store store' t clean so_far.0 so_far.1 so_far.2 so_far.3 h kept
takes done activity c c' taken typed store store' t e clean so_far h kept =
    left taken typed store store' t h (ap (λ (x : StoreState). x.files) (keeps_none done (wanted activity) store store' kept)) (held_at activity c taken typed store t e clean so_far)

-- NAMES, AND A SCRIPT THAT IS OPENED

pub named : {A : Type 0} (activity : Activity A) (c c' : ConsoleState A) (taken typed : List ℕ) (store store' : StoreState) (t : SessionState) → c.activity ≡ activity → c.machine.bus.typed ≡ [] → Stands activity (taken ++ c.journal) typed c.machine store t → Names activity c c' → store' ≡ store → Stays c' taken typed store' t
unfolding Completes
named activities.Naming c c' taken typed store store' t e clean done h same = became taken typed store store' t h.3 (ap (λ (x : StoreState). x.files) same) (plain_holds activities.Typing (taken ++ c.journal) typed c.machine store t refl clean done)
named activity c c' taken typed store store' t e clean done h same = left taken typed store store' t h (ap (λ (x : StoreState). x.files) same) (held_at activity c taken typed store t e clean done)

pub opens_script : {A : Type 0} (name : List ℕ) (activity : Activity A) (text typed : List ℕ) (machine : State) (store : StoreState) (t : SessionState) → Stands activity text typed machine store t → Stands (opening name activity) text typed machine store t
opens_script name activities.Free text typed machine store t h = h
opens_script name activity text typed machine store t h = h
