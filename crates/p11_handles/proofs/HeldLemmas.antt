-- What the lines of a script leave of what is kept.
use Rattle.std.proofs.Common.{◌≡◌, ◌⊎◌, ℕ, ℤ, true, false, List, Ok, refl, [], ◌++◌, Option, None, Some, sym, ap, ◌∙◌, subst, append-nil, inl, inr}
use Rattle.std.specs.Io.KnownBytes.{Appends, Consumes, IsAtEnd}
use Rattle.p11_lines.specs.Writers.{WriterState}
use Rattle.p11_cpu.specs.State.{State}
use Rattle.std.specs.Prelude.{MatchOption}
use Rattle.p11_store.specs.Calls.Files.{NamedBytes, MemoryFiles, bytes_under, store_of}
use Rattle.p11_panel.specs.Script.{ended_lines, script_lines}
use Rattle.p11_panel.specs.Session.{with_store, LineDoes, LinesRun, ScriptDone, ScriptCut, texts_of}
use Rattle.p11_panel.specs.Calls.Sizes.{Sizes, is_size, sizes_of}
use Rattle.p11_handles.specs.Calls.{Lent, TookManyReads}
use Rattle.p11_handles.specs.Held.{Kept, Held, kept_of, new_kept}
use Rattle.p11_handles.specs.HeldCalls.{Plays, Stops, LinesEnd, with_kept_file, PutsFile, without, Forgets, ForgetsFile, HandsText, OnHeld, Opens}
use Rattle.p11_handles.specs.Rows.{Fits, IsRow, IsNoRow, file_of}
use Rattle.p11_handles.specs.Statuses.{number_of_status}
use Rattle.p11_handles.specs.declared.status.Status.{Status}
use Rattle.p11_handles.specs.declared.status.Status.TheVariants.{Done, NoMemory, BadSize, BadFiles, TooLong, NoMachine, NoFile}
use Rattle.p11_handles.proofs.CallLemmas.{accepted_size, size_of}
use Rattle.p11_handles.proofs.StoreLemmas.{added, lacks_without, keeps_without}

-- a writer in memory
abbrev pub holds_text : List ℕ → WriterState
holds_text text = record { bytes = Some text; writes = None }

pub from_none : (start earlier text : List ℕ) → start ≡ [] → text ≡ start ++ earlier → text ≡ earlier
from_none start earlier text none e = e ∙ ap (λ (l : List ℕ). l ++ earlier) none

text_from : (known : Option (List ℕ)) (start earlier front text : List ℕ) → start ≡ [] → Appends (Some start) known earlier → Appends known (Some text) front → text ≡ earlier ++ front
text_from None start earlier front text none first second = absurd first
text_from (Some bytes) start earlier front text none first second = second ∙ ap (λ (l : List ℕ). l ++ front) (from_none start earlier bytes none first)

-- what is read of bytes in memory
front_read : (script : List ℕ) (left : Option (List ℕ)) (read : List ℕ) → Consumes (Some script) left read → (rest : List ℕ) × (script ≡ read ++ rest)
front_read script None read consumed = absurd consumed
front_read script (Some rest) read consumed = (rest, consumed)

all_read : (script : List ℕ) (left : Option (List ℕ)) (read : List ℕ) → Consumes (Some script) left read → IsAtEnd left → read ≡ script
all_read script None read consumed end = absurd consumed
all_read script (Some rest) read consumed end = sym (consumed ∙ (ap (λ (l : List ℕ). read ++ l) end ∙ append-nil read))

module _ (A : Type 0) (p p' : State) (m m' : MemoryFiles) (answer start text : List ℕ) (zero : m.refusals ≡ 0) (none : start ≡ []) where
  abbrev kept : Kept
  kept = kept_of p m.files answer

  abbrev kept' : Kept
  kept' = kept_of p' m'.files text

  abbrev DidLines : List (List ℕ) → ℕ → Type 0
  DidLines lines n = ScriptDone (LineDoes {A = A}) lines (with_store p (store_of m)) (holds_text start) (with_store p' (store_of m')) (holds_text text) n

  abbrev CutLines : List (List ℕ) → Type 0
  CutLines lines = ScriptCut (LineDoes {A = A}) lines (with_store p (store_of m)) (holds_text start) (with_store p' (store_of m')) (holds_text text)

  plays : (lines : List (List ℕ)) (n : ℕ) → DidLines lines n → Plays A lines kept kept'
  unfolding ScriptDone
  plays lines n did =
      let P : ℕ → Type 0 = λ r. LinesRun (LineDoes {A = A}) lines (with_store p (store_of (record { files = m.files; refusals = r }))) did.0 (with_store p' (store_of m')) in
      record { answers = did.0; refusals = m'.refusals; runs = subst P zero did.1; text_is = from_none start (texts_of did.0) text none did.2.bytes }

  stops : (lines : List (List ℕ)) → CutLines lines → Stops A lines kept kept'
  unfolding ScriptDone ScriptCut
  stops lines broke =
      let P : ℕ → Type 0 = λ r. LinesRun (LineDoes {A = A}) broke.0 (with_store p (store_of (record { files = m.files; refusals = r }))) broke.7.0 broke.4 in
      record {
        earlier = broke.0;
        line = broke.1;
        others = broke.2;
        split = broke.3;
        answers = broke.7.0;
        before = broke.4;
        runs = subst P zero broke.7.1;
        answer = broke.8;
        refusals = m'.refusals;
        does = broke.9;
        front = broke.10.front;
        back = broke.10.back;
        text_is = text_from broke.5.bytes start (texts_of broke.7.0) broke.10.front text none broke.7.2.bytes broke.10.written.bytes;
        answer_is = broke.10.split;
        unkept = broke.10.unwritten;
      }

  pub ends_done : (script : List ℕ) (left : Option (List ℕ)) (read : List ℕ) (n : ℕ) → Consumes (Some script) left read → IsAtEnd left → DidLines (script_lines read) n → LinesEnd A script Done kept kept'
  unfolding LinesEnd
  ends_done script left read n consumed end did =
      let P : List ℕ → Type 0 = λ s. Plays A (script_lines s) kept kept' in
      subst P (all_read script left read consumed end) (plays (script_lines read) n did)

  pub ends_long : (script : List ℕ) (left : Option (List ℕ)) (read : List ℕ) (n : ℕ) → Consumes (Some script) left read → TookManyReads read → DidLines (ended_lines read) n → LinesEnd A script TooLong kept kept'
  unfolding LinesEnd
  ends_long script left read n consumed many did =
      let front = front_read script left read consumed in
      (read, front.0, front.1, (many, plays (ended_lines read) n did))

  ends_front : (script : List ℕ) (left : Option (List ℕ)) (read : List ℕ) → Consumes (Some script) left read → CutLines (ended_lines read) → LinesEnd A script NoMemory kept kept'
  unfolding LinesEnd
  ends_front script left read consumed broke =
      let front = front_read script left read consumed in
      inr (read, front.0, front.1, stops (ended_lines read) broke)

  ends_last : (script : List ℕ) (left : Option (List ℕ)) (read : List ℕ) → Consumes (Some script) left read → IsAtEnd left → CutLines (script_lines read) → LinesEnd A script NoMemory kept kept'
  unfolding LinesEnd
  ends_last script left read consumed end broke =
      let P : List ℕ → Type 0 = λ s. Stops A (script_lines s) kept kept' in
      inl (subst P (all_read script left read consumed end) (stops (script_lines read) broke))

  pub ends_broke : (script : List ℕ) (left : Option (List ℕ)) (read : List ℕ) → (Consumes (Some script) left read × CutLines (ended_lines read)) ⊎ (Consumes (Some script) left read × IsAtEnd left × CutLines (script_lines read)) → LinesEnd A script NoMemory kept kept'
  ends_broke script left read (inl front) = ends_front script left read front.0 front.1
  ends_broke script left read (inr last) = ends_last script left read last.0 last.1 last.2

-- a new machine is made or refused
pub opens_bad_size : (kwords lines : ℕ) (row : List ℕ) → is_size kwords lines ≡ false → (held : Held) → Opens kwords lines row BadSize held held
unfolding Opens
opens_bad_size kwords lines row other held = (other, refl)

pub opens_memory : (kwords lines : ℕ) (row : List ℕ) → is_size kwords lines ≡ true → (held : Held) → Opens kwords lines row NoMemory held held
unfolding Opens
opens_memory kwords lines row sized held = (sized, refl)

opens_bad_files : (kwords lines : ℕ) (row : List ℕ) → is_size kwords lines ≡ true → IsNoRow row → (held : Held) → Opens kwords lines row BadFiles held held
unfolding Opens
opens_bad_files kwords lines row sized none held = (sized, none, refl)

pub opens_no_row : (kwords lines : ℕ) (row : List ℕ) (status : Status) → is_size kwords lines ≡ true → (status ≡ NoMemory) ⊎ ((status ≡ BadFiles) × IsNoRow row) → (held : Held) → Opens kwords lines row status held held
opens_no_row kwords lines row status sized (inl e) held = let P : Status → Type 0 = λ s. Opens kwords lines row s held held in subst P (sym e) (opens_memory kwords lines row sized held)
opens_no_row kwords lines row status sized (inr bad) held = let P : Status → Type 0 = λ s. Opens kwords lines row s held held in subst P (sym bad.0) (opens_bad_files kwords lines row sized bad.1 held)

pub opens_done : (kwords lines : ℕ) (row : List ℕ) (sizes : Sizes) (files : List NamedBytes) (kept : Kept) → Ok sizes ≡ sizes_of kwords lines → IsRow row files → kept ≡ new_kept sizes.kwords files → (held : Held) → Opens kwords lines row Done held (Some kept)
unfolding Opens
opens_done kwords lines row sizes files kept sized is made held =
    let same : kept ≡ new_kept kwords files = made ∙ ap (λ (k : ℕ). new_kept k files) (size_of kwords lines sizes sized) in
    (accepted_size kwords lines sizes sized, (files, is, ap (λ (k : Kept). Some k) same))

-- a file is put behind the others
pub file_put : (name bytes : List ℕ) (kept kept' : Kept) → Fits (file_of name bytes) → kept' ≡ with_kept_file name bytes kept → PutsFile name bytes Done kept kept'
unfolding PutsFile
file_put name bytes kept kept' fits same =
    let there = added kept.files kept'.files name bytes (ap (λ (k : Kept). k.files) same) in
    (fits, same, (there.0, there.1, refl, refl))

-- a name is forgotten that has bytes
pub file_forgotten : (name bytes : List ℕ) (kept kept' : Kept) → Some bytes ≡ bytes_under None kept.files name → kept' ≡ record kept { files = without name kept.files } → ForgetsFile name Done kept kept'
file_forgotten name bytes kept kept' there same =
    let P : Option (List ℕ) → Type 0 = λ o. MatchOption o ((Done ≡ NoFile) × (kept' ≡ kept)) (λ b. (Done ≡ Done) × Forgets name kept kept') in
    let lacks : bytes_under None kept'.files name ≡ None = ap (λ (k : Kept). bytes_under None k.files name) same ∙ lacks_without kept.files name in
    subst P there (refl, (same, lacks, λ other ne. ap (λ (k : Kept). bytes_under None k.files other) same ∙ keeps_without None kept.files name other ne))

-- a call on what is held
pub on_none : (Does : Kept → Status → Kept → Type 0) (Nothing : Type 0) (held held' : Held) (number : ℤ) → held ≡ None → number ≡ number_of_status NoMachine → held' ≡ None → Nothing → OnHeld Does Nothing held number held'
unfolding OnHeld
on_none Does Nothing held held' number none is none' nothing =
    let P : Held → Type 0 = λ h. OnHeld Does Nothing h number held' in
    subst P (sym none) (is, none', nothing)

pub on_some : (Does : Kept → Status → Kept → Type 0) (Nothing : Type 0) (held held' : Held) (number : ℤ) (was is : Kept) (status : Status) → held ≡ Some was → number ≡ number_of_status status → held' ≡ Some is → Does was status is → OnHeld Does Nothing held number held'
unfolding OnHeld
on_some Does Nothing held held' number was is status some number_is some' does =
    let P : Held → Type 0 = λ h. OnHeld Does Nothing h number held' in
    subst P (sym some) (status, number_is, is, some', does)

pub text_handed : (status : Status) (text shown : List ℕ) (out out' : Lent) → text ≡ shown → HandsText status text out out' → HandsText status shown out out'
text_handed status text shown out out' e hands = let P : List ℕ → Type 0 = λ t. HandsText status t out out' in subst P e hands
