-- What a disk may have under a path after a crash, by the calls of one save to it.
use Rattle.std.specs.Prelude.{◌≡◌, ◌⊎◌, ℕ, Bool, true, false, List, [], ◌∷◌, ◌++◌, Option, None, Some}
use Rattle.p11_files.specs.Disks.{DiskCall}
use Rattle.p11_files.specs.declared.disk.Act.{Act}
use Rattle.p11_files.specs.declared.disk.Act.TheVariants.{Look, Locate, Whole, Open, Read, Create, Miss, Write, Sync, Rename, Settle, Remove}

-- the bytes that the new file took; whether all of them are on the disk; whether the file has the path; and whether the path's entry
-- is on the disk
pub record Medium : Type 0 where
  pub taken : List ℕ
  pub is_synced : Bool
  pub is_named : Bool
  pub is_settled : Bool

-- the new file was made, and took nothing yet
abbrev pub empty : Medium
empty = record { taken = []; is_synced = false; is_named = false; is_settled = false }

-- a call that went well changes it so; one that failed changes nothing
abbrev pub with_act : Act → List ℕ → Medium → Medium
with_act Write bytes m = record m { taken = m.taken ++ bytes; is_synced = false }
with_act Sync bytes m = record m { is_synced = true }
with_act Rename bytes m = record m { is_named = true }
with_act Settle bytes m = record m { is_settled = m.is_named }
with_act Look bytes m = m
with_act Locate bytes m = m
with_act Whole bytes m = m
with_act Open bytes m = m
with_act Read bytes m = m
with_act Create bytes m = m
with_act Miss bytes m = m
with_act Remove bytes m = m

abbrev pub with_done : Option (List ℕ) → DiskCall → Medium → Medium
with_done None call m = with_act call.act call.other m
with_done (Some reason) call m = m

-- After a crash the path has these bytes, if any: those that it had, unless its new entry is on the disk; or, if the new file has the
-- path, what that took, of which all is known to be there only if it was brought to the disk.
abbrev pub MayHave : Option (List ℕ) → Medium → Option (List ℕ) → Type 0
MayHave old m found =
    ((m.is_settled ≡ false) × (found ≡ old)) ⊎ ((m.is_named ≡ true) × (m.is_synced ≡ true → found ≡ Some m.taken))

-- it has what it had, or these bytes
abbrev pub OldOrNew : List ℕ → Medium → Type 0
OldOrNew bytes m = (old : Option (List ℕ)) → (found : Option (List ℕ)) → MayHave old m found → (found ≡ old) ⊎ (found ≡ Some bytes)

-- that holds before the first of these calls, and after each of them
abbrev pub KeepsOldOrNew : List ℕ → Medium → List DiskCall → Type 0
KeepsOldOrNew bytes m [] = OldOrNew bytes m
KeepsOldOrNew bytes m (call ∷ calls) = OldOrNew bytes m × KeepsOldOrNew bytes (with_done call.reason call m) calls
