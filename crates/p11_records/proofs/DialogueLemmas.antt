-- A dialogue, event by event: its record does it again.
use Rattle.std.proofs.Common.{◌≡◌, ℕ, ◌≤◌, List, [], ◌∷◌, ◌++◌, append-nil, append_assoc, take, drop, refl, sym, ap, subst, ◌∙◌}
use Rattle.std.proofs.lemmas.List.{take-append-drop}
use Rattle.std.proofs.lemmas.List.Elements.{All-nil}
use Rattle.p11_cpu.specs.State.{State}
use Rattle.p11_panel.specs.Session.{SessionState, with_store}
use Rattle.p11_store.specs.Store.{StoreState}
use Rattle.p11_console.specs.State.{ConsoleState, opened}
use Rattle.p11_dialogue.specs.Behind.{activity_behind}
use Rattle.p11_console.specs.Steps.{Steps}
use Rattle.p11_dialogue.specs.declared.settings.Settings.{Settings}
use Rattle.p11_dialogue.specs.declared.want.Want.{Want}
use Rattle.p11_dialogue.specs.declared.want.Want.TheVariants as wants
use Rattle.p11_dialogue.specs.declared.activity.Activity.{Activity}
use Rattle.p11_dialogue.specs.declared.activity.Activity.TheVariants as activities
use Rattle.p11_records.specs.Again.{Alike}
use Rattle.p11_records.specs.Dialogue as dialogue
use Rattle.p11_records.specs.Dialogue.{Comes, Dialogue, DialoguesDoAgain, Event, Gets, Happen, Happens, HostDoes, Keeps, begun, due, due_now, record_of, session_of, taken_at, typed_at, typed_on}
use Rattle.p11_records.proofs.RecordLemmas.{Again, none, played}
use Rattle.p11_records.proofs.UnderWay.{Holds, Now, Stands, closes}
use Rattle.p11_records.proofs.FilesRecorded.{gives, left, named, no_more, opens_script, takes}
use Rattle.p11_records.proofs.StepsRecorded.{Held, moves}
use Rattle.p11_records.proofs.WaitingKeys.{Waits, comes_bytes}

-- EVENTS

stepped : {A : Type 0} (turns : ℕ) (want : Want) (c c' : ConsoleState A) (taken typed : List ℕ) (store : StoreState) (t : SessionState) → Waits c → Held c taken typed store t → Steps turns c want c' → Holds c'.activity (taken ++ c'.journal) (typed ++ typed_at {A = A} (dialogue.Stepped turns want) c'.activity) c'.machine store t
stepped turns wants.Step c c' taken typed store t bytes held h = moves turns c.activity c c' taken typed store t refl bytes held.clean held.stands h
stepped turns want c c' taken typed store t bytes held h = left taken typed store store t h.1 refl held

-- what the host has taken of the record is a front of it
abbrev After : {A : Type 0} → Event A → ConsoleState A → ConsoleState A → List ℕ → List ℕ → StoreState → SessionState → Type 0
After event c c' taken typed store t = Held c' (taken ++ taken_at event c.journal) (typed ++ typed_at event c'.activity) store t

none_taken : {A : Type 0} (activity : Activity A) (journal taken typed : List ℕ) (machine : State) (store : StoreState) (t : SessionState) → Holds activity (taken ++ journal) typed machine store t → Holds activity ((taken ++ []) ++ journal) typed machine store t
none_taken activity journal taken typed machine store t h = subst (λ (x : List ℕ). Holds activity (x ++ journal) typed machine store t) (sym (append-nil taken)) h

some_taken : {A : Type 0} (count : ℕ) (c c' : ConsoleState A) (taken typed : List ℕ) (store : StoreState) (t : SessionState) → Held c taken typed store t → c' ≡ record c { journal = drop count c.journal } → Holds c'.activity ((taken ++ take count c.journal) ++ c'.journal) (typed ++ []) c'.machine store t
some_taken {A} count c c' taken typed store t held e =
    subst (λ (x : ConsoleState A). Holds x.activity ((taken ++ take count c.journal) ++ x.journal) (typed ++ []) x.machine store t) (sym e)
    (subst (λ (x : List ℕ). Holds c.activity x (typed ++ []) c.machine store t) (sym (append_assoc taken (take count c.journal) (drop count c.journal) ∙ ap (λ x. taken ++ x) (take-append-drop count c.journal)))
    (no_more c.activity (taken ++ c.journal) typed c.machine store t held))

same_store : {A : Type 0} (activity : Activity A) (text typed : List ℕ) (machine : State) (store store' : StoreState) (t : SessionState) → store' ≡ store → Holds activity text typed machine store t → Holds activity text typed machine store' t
same_store activity text typed machine store store' t e h = subst (λ (s : StoreState). Holds activity text typed machine s t) (sym e) h

quiet : {A : Type 0} {c c' : ConsoleState A} (taken typed : List ℕ) (store store' : StoreState) (t : SessionState) → c' ≡ c → store' ≡ store → Held c taken typed store t → Holds c'.activity ((taken ++ []) ++ c'.journal) (typed ++ []) c'.machine store' t
quiet {A} {c} {c'} taken typed store store' t e same held =
    none_taken c'.activity c'.journal taken (typed ++ []) c'.machine store' t (left taken typed store store' t e (ap (λ (x : StoreState). x.files) same) held)

comes : {A : Type 0} (event : Event A) (c c' : ConsoleState A) (taken typed : List ℕ) (store store' : StoreState) (t : SessionState) → Waits c → Held c taken typed store t → Comes event c c' → HostDoes event c.activity store store' → After event c c' taken typed store' t
comes {A} (dialogue.Stepped turns want) c c' taken typed store store' t bytes held h host =
    same_store c'.activity ((taken ++ []) ++ c'.journal) (typed ++ typed_at {A = A} (dialogue.Stepped turns want) c'.activity) c'.machine store store' t host
    (none_taken c'.activity c'.journal taken (typed ++ typed_at {A = A} (dialogue.Stepped turns want) c'.activity) c'.machine store t (stepped turns want c c' taken typed store t bytes held h))
comes (dialogue.Fetched file) c c' taken typed store store' t bytes held h host =
    none_taken c'.activity c'.journal taken (typed ++ []) c'.machine store' t (gives file c.activity c c' taken typed store store' t refl held.clean held.stands h host)
comes (dialogue.Written done) c c' taken typed store store' t bytes held h host =
    none_taken c'.activity c'.journal taken (typed ++ []) c'.machine store' t (takes done c.activity c c' taken typed store store' t refl held.clean held.stands h host)
comes dialogue.Named c c' taken typed store store' t bytes held h host =
    none_taken c'.activity c'.journal taken (typed ++ []) c'.machine store' t (named c.activity c c' taken typed store store' t refl held.clean held.stands h host)
comes (dialogue.Opened name) c c' taken typed store store' t bytes held h host =
    quiet taken typed store store' t h host (record { clean = held.clean; stands = opens_script name c.activity (taken ++ c.journal) typed c.machine store t held.stands })
comes (dialogue.Recorded count) c c' taken typed store store' t bytes held h host =
    same_store c'.activity ((taken ++ take count c.journal) ++ c'.journal) (typed ++ []) c'.machine store store' t host (some_taken count c c' taken typed store t held h)
comes dialogue.Redrawn c c' taken typed store store' t bytes held h host = quiet taken typed store store' t h.1 host held
comes (dialogue.Keys keys) c c' taken typed store store' t bytes held h host = quiet taken typed store store' t h.1 host held
comes dialogue.Ticked c c' taken typed store store' t bytes held h host = quiet taken typed store store' t h host held
comes dialogue.Closed c c' taken typed store store' t bytes held h host = quiet taken typed store store' t h host held
comes dialogue.Paused c c' taken typed store store' t bytes held h host = quiet taken typed store store' t h host held
comes (dialogue.Remembered line) c c' taken typed store store' t bytes held h host = quiet taken typed store store' t h host held
comes (dialogue.Shown count) c c' taken typed store store' t bytes held h host = quiet taken typed store store' t h host held
comes (dialogue.Kept count) c c' taken typed store store' t bytes held h host = quiet taken typed store store' t h host held
comes dialogue.Left c c' taken typed store store' t bytes held h host = quiet taken typed store store' t h host held

-- A DIALOGUE

record HeldIn {A : Type 0} (d : Dialogue A) (t : SessionState) : Type 0 where
  held : Held d.console d.taken d.typed d.store t
  bytes : Waits d.console

happens : {A : Type 0} (event : Event A) (d d' : Dialogue A) (t : SessionState) → HeldIn d t → Happens event d d' → HeldIn d' t
unfolding Happens
happens event d d' t so_far h =
    record {
      held = subst (λ (x : List ℕ). Held d'.console x d'.typed d'.store t) (sym h.2)
          (subst (λ (x : List ℕ). Held d'.console (d.taken ++ taken_at event d.console.journal) x d'.store t) (sym h.3)
          (comes event d.console d'.console d.taken d.typed d.store d'.store t so_far.bytes so_far.held h.0 h.1));
      bytes = comes_bytes event d.console d'.console so_far.bytes h.0;
    }

happen : {A : Type 0} (events : List (Event A)) (d d' : Dialogue A) (t : SessionState) → HeldIn d t → Happen events d d' → HeldIn d' t
unfolding Happen
happen {A} [] d d' t so_far h = subst (λ (x : Dialogue A). HeldIn x t) (sym h) so_far
happen (event ∷ events) d d' t so_far h = happen events h.0 d' t (happens event d h.0 t so_far h.1) h.2

-- what is recorded, with what is due
no_due : (A : Type 0) (text typed : List ℕ) (s t : SessionState) → Again A text typed s t → Again A (text ++ []) typed s t
no_due A text typed s t done = subst (λ (x : List ℕ). Again A x typed s t) (sym (append-nil text)) done

now_due : {A : Type 0} (activity : Activity A) (text typed : List ℕ) (machine : State) (store : StoreState) (t : SessionState) → Now activity text typed machine store t → Again A (text ++ due_now activity) typed (with_store machine store) t
now_due {A} (activities.Running run) text typed machine store t h = closes A text typed run.made machine store t h.so_far
now_due (activities.Stopped stop more) text typed machine store t h = h
now_due (activities.Telling answer more note) text typed machine store t h = h
now_due {A} (activities.Fetching line more) text typed machine store t h = no_due A text typed (with_store machine store) t h.0
now_due {A} (activities.Putting line image more is_agreed) text typed machine store t h = no_due A text typed (with_store machine store) t h.0
now_due {A} (activities.Asking line image more) text typed machine store t h = no_due A text typed (with_store machine store) t h.0
now_due {A} (activities.Unmounting drive is_agreed) text typed machine store t h = no_due A text typed (with_store machine store) t h.0
now_due {A} (activities.Doubting drive) text typed machine store t h = no_due A text typed (with_store machine store) t h.0
now_due {A} activity text typed machine store t h = no_due A text typed (with_store machine store) t h

activity_due : {A : Type 0} (activity : Activity A) (text typed : List ℕ) (machine : State) (store : StoreState) (t : SessionState) → Stands activity text typed machine store t → Again A (text ++ due activity) typed (with_store machine store) t
activity_due (activities.Sliced run answer) text typed machine store t h = now_due (activity_behind run answer) text typed machine store t h
activity_due activity text typed machine store t h = now_due activity text typed machine store t h

recorded_all : {A : Type 0} (d : Dialogue A) (t : SessionState) → HeldIn d t → Again A (record_of d) d.typed (session_of d) t
recorded_all d t so_far = activity_due d.console.activity (d.taken ++ d.console.journal) d.typed d.console.machine d.store t so_far.held.stands

at_first : {A : Type 0} (panel : State) (settings : Settings) (store : StoreState) (t : SessionState) → panel.bus.typed ≡ [] → Alike (with_store panel store) t → HeldIn (begun {A = A} panel settings store) t
unfolding opened
at_first {A} panel settings store t clean alike =
    record { held = record { clean = clean; stands = none A (with_store panel store) t alike }; bytes = All-nil (λ byte. byte ≤ 255) }

pub dialogues_again : {A : Type 0} → DialoguesDoAgain A
dialogues_again {A} panel settings store events d t clean h alike =
    played A (record_of d) d.typed (session_of d) t
    (recorded_all d t (happen events (begun {A = A} panel settings store) d t (at_first {A = A} panel settings store t clean alike) h))
