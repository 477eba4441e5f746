-- A store of files, as far as contracts know it, and what it does when it is asked.
use Rattle.std.specs.Prelude.{◌≡◌, ◌≢◌, ℕ, ◌+◌, Bool, true, false, List, [], ◌∷◌, Option, None, Some, ⊤}
use Rattle.p11_lines.specs.Writers.{with_calls}
use Rattle.p11_store.specs.declared.store.StoreError.{StoreError}
use Rattle.p11_store.specs.declared.store.StoreError.TheVariants.{Refused, NoMemory}

-- a call: whether a file was put or asked for, its name, and whether that was refused
pub record StoreCall : Type 0 where
  pub is_put : Bool
  pub name : List ℕ
  pub is_refused : Bool

-- The bytes under each name that it has, where its files are known; how often it has refused; and its calls, where
-- they are known.
pub record StoreState : Type 0 where
  pub files : Option (List ℕ → Option (List ℕ))
  pub refusals : ℕ
  pub calls : Option (List StoreCall)

-- after one more call
abbrev pub with_call : Bool → List ℕ → Bool → Option (List StoreCall) → Option (List StoreCall)
with_call is_put name is_refused calls =
    with_calls calls ((record { is_put = is_put; name = name; is_refused = is_refused }) ∷ [])

-- a file was asked for
abbrev pub asked : List ℕ → Bool → StoreState → StoreState
asked name is_refused s = record s { calls = with_call false name is_refused s.calls }

-- it refused once more
abbrev pub refused : StoreState → StoreState
refused s = record s { refusals = s.refusals + 1 }

-- where its files are known, this is what it has under the name: bytes, or nothing
abbrev pub Has : Option (List ℕ → Option (List ℕ)) → List ℕ → Option (List ℕ) → Type 0
Has None name found = ⊤
Has (Some files) name found = files name ≡ found

-- where its files are known, they stay, but for the one of this name
abbrev pub KeepsOthers : Option (List ℕ → Option (List ℕ)) → List ℕ → Option (List ℕ → Option (List ℕ)) → Type 0
KeepsOthers None name new = ⊤
KeepsOthers (Some old) name None = ⊥
KeepsOthers (Some old) name (Some new) = (other : List ℕ) → other ≢ name → new other ≡ old other

-- A fetch gives the bytes under the name, and changes no file.
abbrev pub Fetches : StoreState → List ℕ → List ℕ → StoreState → Type 0
Fetches s name bytes s' = Has s.files name (Some bytes) × (s' ≡ asked name false s)

-- A fetch that gives none is refused, which is counted, where the name is missing; or it finds no memory for what is
-- under the name.
abbrev pub FailsToFetch : StoreState → List ℕ → StoreError → StoreState → Type 0
FailsToFetch s name Refused s' = Has s.files name None × (s' ≡ asked name true (refused s))
FailsToFetch s name NoMemory s' = ((bytes : List ℕ) × Has s.files name (Some bytes)) × (s' ≡ asked name false s)

-- A put leaves the bytes under the name, and the other files as they were.
abbrev pub Puts : StoreState → List ℕ → List ℕ → StoreState → Type 0
Puts s name bytes s' =
    Has s'.files name (Some bytes) × KeepsOthers s.files name s'.files × (s'.refusals ≡ s.refusals)
    × (s'.calls ≡ with_call true name false s.calls)

-- A put that is refused is counted, and leaves the other files as they were.
abbrev pub FailsToPut : StoreState → List ℕ → StoreState → Type 0
FailsToPut s name s' =
    KeepsOthers s.files name s'.files × (s'.refusals ≡ s.refusals + 1)
    × (s'.calls ≡ with_call true name true s.calls)
