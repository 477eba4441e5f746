-- How calls end.
use Rattle.std.proofs.Common.{◌≡◌, ◌⊎◌, ℕ, true, false, List, Result, Ok, Err, IfOk, IfErr, refl, sym, ap, ◌∙◌, subst, inl, inr}
use Rattle.std.proofs.lemmas.Bool.{cases_Bool}
use Rattle.p11_lines.specs.declared.fault.Fault.{Fault}
use Rattle.p11_lines.specs.declared.fault.Fault.TheVariants as faults
use Rattle.p11_cpu.specs.Operator.{new_machine}
use Rattle.p11_store.specs.Calls.Files.{NamedBytes}
use Rattle.p11_panel.specs.Calls.Sizes.{Sizes, is_size, sizes_of}
use Rattle.p11_handles.specs.Calls.{Asked, Lent, HandsOut, asked_for, Refuses, TookManyReads, PlaysOver, SessionGives}
use Rattle.p11_handles.specs.Rows.{IsRow, IsNoRow}
use Rattle.p11_handles.specs.Typed.{typed_in}
use Rattle.p11_handles.specs.declared.status.Status.{Status}
use Rattle.p11_handles.specs.declared.status.Status.TheVariants.{NoMemory, BadSize, BadFiles, TooLong}

pub refused_size : (kwords lines : ℕ) (fault : Fault) → Err fault ≡ sizes_of kwords lines → is_size kwords lines ≡ false
unfolding sizes_of
refused_size kwords lines fault e = elim (cases_Bool (is_size kwords lines)) [
  | inl sized ↦
      let accepted : Result Sizes Fault = Ok (record { kwords = kwords; lines = lines }) in
      let same : Err fault ≡ accepted = e ∙ rw sized refl in cc
  | inr other ↦ other
]

pub accepted_size : (kwords lines : ℕ) (sizes : Sizes) → Ok sizes ≡ sizes_of kwords lines → is_size kwords lines ≡ true
unfolding sizes_of
accepted_size kwords lines sizes e = elim (cases_Bool (is_size kwords lines)) [
  | inl sized ↦ sized
  | inr other ↦
      let refused : Result Sizes Fault = Err faults.BadSize in
      let same : Ok sizes ≡ refused = e ∙ rw other refl in cc
]

pub size_of : (kwords lines : ℕ) (sizes : Sizes) → Ok sizes ≡ sizes_of kwords lines → sizes.kwords ≡ kwords
unfolding sizes_of
size_of kwords lines sizes e =
    let sized : is_size kwords lines ≡ true = accepted_size kwords lines sizes e in
    let made : Sizes = record { kwords = kwords; lines = lines } in
    let given : Result Sizes Fault = Ok made in
    let same : Ok sizes ≡ given = e ∙ rw sized refl in
    let is : sizes ≡ made = cc in
    ap (λ (s : Sizes). s.kwords) is

pub bad_size : (asked : Asked) → is_size asked.kwords asked.lines ≡ false → Refuses BadSize asked
unfolding Refuses
bad_size asked h = h

pub no_memory : (asked : Asked) → is_size asked.kwords asked.lines ≡ true → Refuses NoMemory asked
unfolding Refuses
no_memory asked h = h

too_long : (asked : Asked) → is_size asked.kwords asked.lines ≡ true → TookManyReads asked.script → Refuses TooLong asked
unfolding Refuses
too_long asked h many = (h, many)

bad_files : (asked : Asked) → is_size asked.kwords asked.lines ≡ true → IsNoRow asked.files → Refuses BadFiles asked
unfolding Refuses
bad_files asked h none = (h, none)

pub row_refused : (status : Status) (asked : Asked) → is_size asked.kwords asked.lines ≡ true → (status ≡ NoMemory) ⊎ ((status ≡ BadFiles) × IsNoRow asked.files) → Refuses status asked
row_refused status asked sized (inl e) = let P : Status → Type 0 = λ s. Refuses s asked in subst P (sym e) (no_memory asked sized)
row_refused status asked sized (inr bad) = let P : Status → Type 0 = λ s. Refuses s asked in subst P (sym bad.0) (bad_files asked sized bad.1)

session_refused : (status : Status) (asked : Asked) → is_size asked.kwords asked.lines ≡ true → (status ≡ NoMemory) ⊎ ((status ≡ TooLong) × TookManyReads asked.script) → Refuses status asked
session_refused status asked sized (inl e) = let P : Status → Type 0 = λ s. Refuses s asked in subst P (sym e) (no_memory asked sized)
session_refused status asked sized (inr e) = let P : Status → Type 0 = λ s. Refuses s asked in subst P (sym e.0) (too_long asked sized e.1)

pub refusals : {T : Type 0} (r : Result T Status) (asked : Asked) → is_size asked.kwords asked.lines ≡ true → IfErr r (λ status. (status ≡ NoMemory) ⊎ ((status ≡ TooLong) × TookManyReads asked.script)) → IfErr r (λ status. Refuses status asked)
refusals (Ok x) asked sized h = h
refusals (Err status) asked sized h = session_refused status asked sized h

pub session_given : (A : Type 0) (kwords lines : ℕ) (script row text files : List ℕ) (sizes : Sizes) (given : List NamedBytes) → Ok sizes ≡ sizes_of kwords lines → IsRow row given → PlaysOver A (new_machine sizes.kwords) given script text files → SessionGives A (asked_for kwords lines script row) text files
session_given A kwords lines script row text files sizes given sized given_are plays =
    let P : ℕ → Type 0 = λ k. PlaysOver A (new_machine k) given script text files in
    record { sized = accepted_size kwords lines sizes sized; given = given; given_are = given_are; plays = subst P (size_of kwords lines sizes sized) plays }

-- the same of whatever shows a text and the row of files
pub sessions_given : {T : Type 0} (r : Result T Status) (text_of files_of : T → List ℕ) (A : Type 0) (kwords lines : ℕ) (script row : List ℕ) (sizes : Sizes) (given : List NamedBytes) → Ok sizes ≡ sizes_of kwords lines → IsRow row given → IfOk r (λ g. PlaysOver A (new_machine sizes.kwords) given script (text_of g) (files_of g)) → IfOk r (λ g. SessionGives A (asked_for kwords lines script row) (text_of g) (files_of g))
sessions_given (Ok g) text_of files_of A kwords lines script row sizes given sized given_are plays = session_given A kwords lines script row (text_of g) (files_of g) sizes given sized given_are plays
sessions_given (Err status) text_of files_of A kwords lines script row sizes given sized given_are plays = plays

pub typed_given : {T : Type 0} (r : Result T Status) (text_of files_of : T → List ℕ) (A : Type 0) (asked : Asked) (text files : List ℕ) → SessionGives A asked text files → IfOk r (λ g. (text_of g ≡ typed_in text) × (files_of g ≡ files)) → IfOk r (λ g. (t : List ℕ) × (text_of g ≡ typed_in t) × SessionGives A asked t (files_of g))
typed_given (Ok g) text_of files_of A asked text files session shown =
    let P : List ℕ → Type 0 = λ l. SessionGives A asked text l in
    (text, shown.0, subst P (sym shown.1) session)
typed_given (Err status) text_of files_of A asked text files session shown = shown

pub memory_refused : {T : Type 0} (r : Result T Status) (asked : Asked) → is_size asked.kwords asked.lines ≡ true → IfErr r (λ status. status ≡ NoMemory) → IfErr r (λ status. Refuses status asked)
memory_refused (Ok x) asked sized h = h
memory_refused (Err status) asked sized h = row_refused status asked sized (inl h)

pub hands_of : (status : Status) (text shown files list_bytes : List ℕ) (out list out' list' : Lent) → text ≡ shown → files ≡ list_bytes → HandsOut status text files out list out' list' → HandsOut status shown list_bytes out list out' list'
hands_of status text shown files list_bytes out list out' list' e f hands =
    let P : List ℕ → Type 0 = λ t. HandsOut status t files out list out' list' in
    let Q : List ℕ → Type 0 = λ l. HandsOut status shown l out list out' list' in
    subst Q f (subst P e hands)
