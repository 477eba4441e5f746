-- Files in memory: the last of a name, and one more of them.
use Rattle.std.proofs.Common.{◌≡◌, ◌≢◌, ◌+◌, ◌<◌, ℕ, true, false, List, [], ◌∷◌, ◌++◌, length, take, get_or, Option, None, Some, refl, sym, ap, ◌∙◌, inl, inr, All}
use Rattle.std.proofs.lemmas.Bool.{cases_Bool}
use Rattle.std.proofs.lemmas.List.{take_more}
use Rattle.std.proofs.lemmas.List.Elements.{All-nil, All-cons, All-append, All-filter}
use Rattle.std.proofs.lemmas.Slice.Eq.{bytes_eq-Decides}
use Rattle.std.specs.Str.{bytes_eq}
use Rattle.p11_store.specs.Calls.Files.{NamedBytes, unless_named, bytes_under}
use Rattle.p11_handles.specs.HeldCalls.{without}
use Rattle.p11_handles.specs.Rows.{Fits}

bytes_under-push : (there : Option (List ℕ)) (files : List NamedBytes) (file : NamedBytes) (name : List ℕ) → bytes_under there (files ++ file ∷ []) name ≡ unless_named file name (bytes_under there files name)
unfolding bytes_under
bytes_under-push there [] file name = refl
bytes_under-push there (f ∷ files) file name = bytes_under-push (unless_named f name there) files file name

-- one file further
pub one_more : (files : List NamedBytes) (i : ℕ) (file : NamedBytes) (name : List ℕ) → i < length files → file ≡ get_or files i file → bytes_under None (take (i + 1) files) name ≡ unless_named file name (bytes_under None (take i files) name)
one_more files i file name below item =
    ap (λ (some : List NamedBytes). bytes_under None some name) (take_more files i file below)
    ∙ (bytes_under-push None (take i files) (get_or files i file) name
    ∙ ap (λ (f : NamedBytes). unless_named f name (bytes_under None (take i files) name)) (sym item))

pub has_name : (file : NamedBytes) (name text bytes : List ℕ) (there : Option (List ℕ)) → text ≡ file.name → bytes ≡ file.bytes → bytes_eq text name ≡ true → unless_named file name there ≡ Some bytes
has_name file name text bytes there named held same = rw (← named, same, held) refl

pub has_other : (file : NamedBytes) (name text : List ℕ) (there : Option (List ℕ)) → text ≡ file.name → bytes_eq text name ≡ false → unless_named file name there ≡ there
has_other file name text there named other = rw (← named, other) refl

own_name : (name bytes : List ℕ) (there : Option (List ℕ)) → unless_named (record { name = name; bytes = bytes }) name there ≡ Some bytes
own_name name bytes there = let same : bytes_eq name name ≡ true = (bytes_eq-Decides name name).1 refl in rw same refl

other_name : (name bytes other : List ℕ) (there : Option (List ℕ)) → other ≢ name → unless_named (record { name = name; bytes = bytes }) other there ≡ there
other_name name bytes other there ne = elim (cases_Bool (bytes_eq name other)) [
  | inl same ↦ absurd (ne (sym ((bytes_eq-Decides name other).0 same)))
  | inr apart ↦ rw apart refl
]

-- a file of one name has nothing under another
unnamed : (file : NamedBytes) (name other : List ℕ) (there : Option (List ℕ)) → bytes_eq file.name name ≡ true → other ≢ name → unless_named file other there ≡ there
unnamed file name other there same ne = elim (cases_Bool (bytes_eq file.name other)) [
  | inl also ↦ absurd (ne (sym ((bytes_eq-Decides file.name other).0 also) ∙ (bytes_eq-Decides file.name name).0 same))
  | inr apart ↦ rw apart refl
]

-- one more file is there, and the others as they were
pub added : (old new : List NamedBytes) (name bytes : List ℕ) → new ≡ old ++ (record { name = name; bytes = bytes }) ∷ [] → (bytes_under None new name ≡ Some bytes) × ((other : List ℕ) → other ≢ name → bytes_under None new other ≡ bytes_under None old other)
added old new name bytes e =
    let file : NamedBytes = record { name = name; bytes = bytes } in (
      ap (λ (files : List NamedBytes). bytes_under None files name) e ∙ (bytes_under-push None old file name ∙ own_name name bytes (bytes_under None old name)),
      λ other ne. ap (λ (files : List NamedBytes). bytes_under None files other) e ∙ (bytes_under-push None old file other ∙ other_name name bytes other (bytes_under None old other) ne),
    )

-- they still fit with one more that does
pub fit_more : (files : List NamedBytes) (file : NamedBytes) → All Fits files → Fits file → All Fits (files ++ file ∷ [])
fit_more files file fit fits = All-append Fits files (file ∷ []) fit (All-cons Fits file [] fits (All-nil Fits))

pub none_yet : (name : List ℕ) → None ≡ bytes_under None [] name
unfolding bytes_under
none_yet name = refl

pub found_here : (files : List NamedBytes) (i : ℕ) (file : NamedBytes) (name text bytes : List ℕ) → i < length files → file ≡ get_or files i file → text ≡ file.name → bytes ≡ file.bytes → bytes_eq text name ≡ true → Some bytes ≡ bytes_under None (take (i + 1) files) name
found_here files i file name text bytes below item named held same =
    sym (one_more files i file name below item ∙ has_name file name text bytes (bytes_under None (take i files) name) named held same)

pub found_before : (files : List NamedBytes) (i : ℕ) (file : NamedBytes) (name text : List ℕ) (found : Option (List ℕ)) → i < length files → file ≡ get_or files i file → text ≡ file.name → bytes_eq text name ≡ false → found ≡ bytes_under None (take i files) name → found ≡ bytes_under None (take (i + 1) files) name
found_before files i file name text found below item named other before =
    before ∙ sym (one_more files i file name below item ∙ has_other file name text (bytes_under None (take i files) name) named other)

-- without a name, there are no bytes under it
pub lacks_without : (files : List NamedBytes) (name : List ℕ) → bytes_under None (without name files) name ≡ None
unfolding bytes_under
lacks_without [] name = refl
lacks_without (file ∷ files) name = elim (cases_Bool (bytes_eq file.name name)) [
  | inl same ↦ rw same (lacks_without files name)
  | inr apart ↦ rw apart (rw apart (lacks_without files name))
]

-- and what is under another name is as it was
pub keeps_without : (there : Option (List ℕ)) (files : List NamedBytes) (name other : List ℕ) → other ≢ name → bytes_under there (without name files) other ≡ bytes_under there files other
unfolding bytes_under
keeps_without there [] name other ne = refl
keeps_without there (file ∷ files) name other ne = elim (cases_Bool (bytes_eq file.name name)) [
  | inl same ↦ rw same (keeps_without there files name other ne ∙ ap (λ (o : Option (List ℕ)). bytes_under o files other) (sym (unnamed file name other there same ne)))
  | inr apart ↦ rw apart (keeps_without (unless_named file other there) files name other ne)
]

pub fit_without : (files : List NamedBytes) (name : List ℕ) → All Fits files → All Fits (without name files)
fit_without files name fit = All-filter _ Fits files fit
