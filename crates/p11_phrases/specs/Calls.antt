-- What contracts of single calls say.
use Rattle.std.specs.Prelude.{◌≡◌, ℕ, List, Option, Some, None, Result, Ok, Err}
use Rattle.std.specs.declared.vec.Vec.{Vec}
use Rattle.p11_phrases.specs.declared.refusal.Refusal.{Refusal}
use Rattle.p11_phrases.specs.declared.refusal.Refusal.TheVariants.{NoMemory, NotWord}

-- a refusal is the one that is meant, but that of want of memory, which nothing is said of
abbrev pub IsMeant : {X : Type 0} → Refusal → Result X Refusal → Type 0
IsMeant NoMemory meant = Unit {0}
IsMeant reason meant = meant ≡ Err reason

-- what is meant was given
abbrev pub Gives : {X : Type 0} → Result X Refusal → Result X Refusal → Type 0
Gives (Ok value) meant = meant ≡ Ok value
Gives (Err reason) meant = IsMeant reason meant

-- words that are meant were given
abbrev pub GivesWords : {A : Type 0} → Result (Vec ℕ A) Refusal → Option (List ℕ) → Type 0
GivesWords (Ok words) meant = meant ≡ Some words.items
GivesWords (Err NotWord) meant = meant ≡ None
GivesWords (Err NoMemory) meant = Unit {0}
GivesWords (Err _) meant = ⊥
