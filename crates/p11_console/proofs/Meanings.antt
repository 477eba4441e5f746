-- What a typed line means, where memory isn't wanted.
use Rattle.std.proofs.Common.{◌≡◌, refl, Result, Err}
use Rattle.p11_phrases.specs.Calls.{Gives}
use Rattle.p11_phrases.specs.declared.refusal.Refusal.{Refusal}
use Rattle.p11_phrases.specs.declared.refusal.Refusal.TheVariants.{Ambiguous, Backwards, NoRegister, TooMany, NotCount, NotWord, OneWord, NoMemory}

pub meant_is : {X : Type 0} (reason : Refusal) (meant : Result X Refusal) → (reason ≡ NoMemory → ⊥) → Gives (Err reason) meant → meant ≡ Err reason
meant_is NoMemory meant k h = absurd (k refl)
meant_is Ambiguous meant k h = h
meant_is Backwards meant k h = h
meant_is NoRegister meant k h = h
meant_is TooMany meant k h = h
meant_is NotCount meant k h = h
meant_is NotWord meant k h = h
meant_is OneWord meant k h = h
