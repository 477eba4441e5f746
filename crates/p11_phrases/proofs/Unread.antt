-- A line that was not read is none that examines, since reading one takes no memory.
use Rattle.std.proofs.Common.{◌≡◌, ℕ, Option, Some, None, Err, refl}
use Rattle.p11_lines.specs.Calls.Reading.{Reads}
use Rattle.p11_lines.specs.declared.fault.Fault.{Fault}
use Rattle.p11_lines.specs.declared.fault.Fault.TheVariants.{NoMemory, BadLine}
use Rattle.p11_lines.specs.declared.line.Line.{Line}
use Rattle.p11_lines.specs.declared.line.Line.TheVariants.{Examine}
use Rattle.p11_phrases.specs.Words.{address_in, count_in}
use Rattle.p11_phrases.specs.Phrases.{place_behind}
use Rattle.p11_phrases.specs.declared.place.ExaminedPlace.{ExaminedPlace}

no_examine : (A : Type 0) (fault : Fault) (address count : ℕ) → Reads {A = A} (Err fault) (Some (Examine address count)) → ⊥
no_examine A BadLine address count read = cc
no_examine A NoMemory address count read = cc
no_examine A _ address count read = read

pub no_address : {A : Type 0} (fault : Fault) (meant : Option (Line A)) → Reads {A = A} (Err fault) meant → address_in meant ≡ None
no_address {A} fault None read = refl
no_address {A} fault (Some (Examine address count)) read = absurd (no_examine A fault address count read)
no_address {A} fault (Some _) read = refl

pub no_count : {A : Type 0} (fault : Fault) (meant : Option (Line A)) → Reads {A = A} (Err fault) meant → count_in meant ≡ None
no_count {A} fault None read = refl
no_count {A} fault (Some (Examine address count)) read = absurd (no_examine A fault address count read)
no_count {A} fault (Some _) read = refl

pub no_place : {A : Type 0} (place : ExaminedPlace) (fault : Fault) (meant : Option (Line A)) → Reads {A = A} (Err fault) meant → place_behind place meant ≡ place
no_place {A} place fault None read = refl
no_place {A} place fault (Some (Examine address count)) read = absurd (no_examine A fault address count read)
no_place {A} place fault (Some _) read = refl
