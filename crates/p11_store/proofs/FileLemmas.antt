-- Files in memory, one more of them.
use Rattle.std.proofs.Common.{◌≡◌, ◌≢◌, ◌+◌, ◌-◌, ◌<◌, ◌≤◌, ℕ, true, false, List, [], ◌∷◌, ◌++◌, length, take, get_or, Option, None, Some, arith, refl, sym, ap, ◌∙◌, inl, inr}
use Rattle.std.proofs.lemmas.Bool.{cases_Bool}
use Rattle.std.proofs.lemmas.Slice.Eq.{bytes_eq-Decides}
use Rattle.std.specs.Str.{bytes_eq}
use Rattle.std.proofs.lemmas.List.{take_more}
use Rattle.p11_store.specs.Calls.Files.{NamedBytes, unless_named, bytes_under}

pub bytes_under-push : (there : Option (List ℕ)) (files : List NamedBytes) (file : NamedBytes) (name : List ℕ) → bytes_under there (files ++ file ∷ []) name ≡ unless_named file name (bytes_under there files name)
unfolding bytes_under
bytes_under-push there [] file name = refl
bytes_under-push there (f ∷ files) file name = bytes_under-push (unless_named f name there) files file name

-- the last of some files
pub bytes_under-last : (there : Option (List ℕ)) (files : List NamedBytes) (i : ℕ) (d : NamedBytes) (name : List ℕ) → i < length files → bytes_under there (take (i + 1) files) name ≡ unless_named (get_or files i d) name (bytes_under there (take i files) name)
bytes_under-last there files i d name h = rw (take_more files i d h) (bytes_under-push there (take i files) (get_or files i d) name)

before : (left n : ℕ) → 0 < left → left ≤ n → left - 1 < n
before left n some within = omega arith

again : (left : ℕ) → 0 < left → left - 1 + 1 ≡ left
again left some = omega arith

-- the last of them, looked at from behind
behind : (files : List NamedBytes) (left : ℕ) (d : NamedBytes) (name : List ℕ) → 0 < left → left ≤ length files → bytes_under None (take left files) name ≡ unless_named (get_or files (left - 1) d) name (bytes_under None (take (left - 1) files) name)
behind files left d name some within =
    ap (λ (k : ℕ). bytes_under None (take k files) name) (sym (again left some)) ∙ bytes_under-last None files (left - 1) d name (before left (length files) some within)

-- it has the name
pub found : (files : List NamedBytes) (left : ℕ) (file : NamedBytes) (name text bytes : List ℕ) → 0 < left → left ≤ length files → bytes_under None (take left files) name ≡ bytes_under None files name
    → file ≡ get_or files (left - 1) file → text ≡ file.name → bytes ≡ file.bytes → bytes_eq text name ≡ true → Some bytes ≡ bytes_under None files name
found files left file name text bytes some within rest item named held same =
    let here : unless_named file name (bytes_under None (take (left - 1) files) name) ≡ Some bytes = rw (← named, same, held) refl in
    sym here ∙ (ap (λ (f : NamedBytes). unless_named f name (bytes_under None (take (left - 1) files) name)) item ∙ (sym (behind files left file name some within) ∙ rest))

-- it has another
pub missed : (files : List NamedBytes) (left : ℕ) (file : NamedBytes) (name text : List ℕ) → 0 < left → left ≤ length files → bytes_under None (take left files) name ≡ bytes_under None files name
    → file ≡ get_or files (left - 1) file → text ≡ file.name → bytes_eq text name ≡ false → bytes_under None (take (left - 1) files) name ≡ bytes_under None files name
missed files left file name text some within rest item named other =
    let here : unless_named file name (bytes_under None (take (left - 1) files) name) ≡ bytes_under None (take (left - 1) files) name = rw (← named, other) refl in
    sym here ∙ (ap (λ (f : NamedBytes). unless_named f name (bytes_under None (take (left - 1) files) name)) item ∙ (sym (behind files left file name some within) ∙ rest))

-- none has it
pub nothing_found : (files : List NamedBytes) (left : ℕ) (name : List ℕ) → left ≤ 0 → bytes_under None (take left files) name ≡ bytes_under None files name → None ≡ bytes_under None files name
unfolding bytes_under
nothing_found files left name none rest =
    let zero_left : left ≡ 0 = omega arith in
    ap (λ (k : ℕ). bytes_under None (take k files) name) (sym zero_left) ∙ rest

own_name : (name bytes : List ℕ) (there : Option (List ℕ)) → unless_named (record { name = name; bytes = bytes }) name there ≡ Some bytes
own_name name bytes there = let same : bytes_eq name name ≡ true = (bytes_eq-Decides name name).1 refl in rw same refl

other_name : (name bytes other : List ℕ) (there : Option (List ℕ)) → other ≢ name → unless_named (record { name = name; bytes = bytes }) other there ≡ there
other_name name bytes other there ne = elim (cases_Bool (bytes_eq name other)) [
  | inl same ↦ absurd (ne (sym ((bytes_eq-Decides name other).0 same)))
  | inr apart ↦ rw apart refl
]

-- one more file is there, and the others as they were
pub added : (old new : List NamedBytes) (name bytes : List ℕ) → new ≡ old ++ (record { name = name; bytes = bytes }) ∷ [] → (bytes_under None new name ≡ Some bytes) × ((other : List ℕ) → other ≢ name → bytes_under None new other ≡ bytes_under None old other)
added old new name bytes e =
    let file : NamedBytes = record { name = name; bytes = bytes } in (
      ap (λ (files : List NamedBytes). bytes_under None files name) e ∙ (bytes_under-push None old file name ∙ own_name name bytes (bytes_under None old name)),
      λ other ne. ap (λ (files : List NamedBytes). bytes_under None files other) e ∙ (bytes_under-push None old file other ∙ other_name name bytes other (bytes_under None old other) ne),
    )
