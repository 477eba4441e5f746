-- What a crash leaves, by the calls before it.
use Rattle.std.proofs.Common.{◌≡◌, ◌⊎◌, ℕ, Bool, true, false, inl, inr, List, [], ◌∷◌, ◌++◌, Option, None, Some, refl, sym, ap, subst, ◌∙◌, append_assoc, append-nil}
use Rattle.std.specs.Prelude.{T}
use Rattle.p11_files.specs.Faults.{text_of}
use Rattle.p11_files.specs.Disks.{DiskCall, Writes, Fills, FailsToFill, well}
use Rattle.p11_files.specs.Crashes.{Medium, KeepsOldOrNew, MayHave, OldOrNew, empty, with_act, with_done}
use Rattle.p11_files.specs.declared.file_fault.FileFault.{FileFault}
use Rattle.p11_files.specs.declared.disk.Act.TheVariants.{Write, Sync, Rename, Settle, Remove}

pub unnamed_keeps : (bytes : List ℕ) (m : Medium) → m.is_named ≡ false → OldOrNew bytes m
unnamed_keeps bytes m unnamed old found (inl kept) = inl kept.1
unnamed_keeps bytes m unnamed old found (inr named) = absurd (subst T (sym named.0 ∙ unnamed) tt)

pub synced_keeps : (bytes : List ℕ) (m : Medium) → m.is_synced ≡ true → m.taken ≡ bytes → OldOrNew bytes m
synced_keeps bytes m synced whole old found (inl kept) = inl kept.1
synced_keeps bytes m synced whole old found (inr named) = inr (named.1 synced ∙ ap (λ (t : List ℕ). Some t) whole)

pub writes_keep : (bytes front : List ℕ) (writes tail : List DiskCall) (m : Medium) → m.is_named ≡ false → Writes front writes
    → ((m' : Medium) → m'.is_named ≡ false → m'.taken ≡ m.taken ++ front → KeepsOldOrNew bytes m' tail) → KeepsOldOrNew bytes m (writes ++ tail)
writes_keep bytes front [] tail m unnamed none rest = rest m unnamed (sym (ap (λ (t : List ℕ). m.taken ++ t) none ∙ append-nil m.taken))
writes_keep bytes front (call ∷ writes) tail m unnamed taken rest = (
  unnamed_keeps bytes m unnamed,
  subst (λ (t : DiskCall). KeepsOldOrNew bytes (with_done t.reason t m) (writes ++ tail)) (sym taken.3)
      (writes_keep bytes taken.1 writes tail (with_act Write taken.0 m) unnamed taken.4
      (λ m' none all. rest m' none (all ∙ append_assoc m.taken taken.0 taken.1 ∙ ap (λ (t : List ℕ). m.taken ++ t) (sym taken.2)))),
)

pub named_keeps : (new path bytes : List ℕ) (m : Medium) → m.is_named ≡ false → m.taken ≡ bytes
    → KeepsOldOrNew bytes m (well Sync [] [] ∷ well Rename new path ∷ well Settle path [] ∷ [])
named_keeps new path bytes m unnamed whole =
    let synced : Medium = with_act Sync [] m in
    let named : Medium = with_act Rename path synced in (
      unnamed_keeps bytes m unnamed,
      (
        unnamed_keeps bytes synced unnamed,
        (
          synced_keeps bytes named refl whole,
          synced_keeps bytes (with_act Settle [] named) refl whole,
        ),
      ),
    )

pub filled_keeps : (new path bytes : List ℕ) (calls : List DiskCall) → Fills new path bytes calls → KeepsOldOrNew bytes empty calls
filled_keeps new path bytes calls fills =
    subst (λ (t : List DiskCall). KeepsOldOrNew bytes empty t) (sym fills.2)
    (writes_keep bytes bytes fills.0 _ empty refl fills.1 (λ m' unnamed whole. named_keeps new path bytes m' unnamed whole))

-- what holds before the first call
pub first_keeps : (bytes : List ℕ) (calls : List DiskCall) (m : Medium) → KeepsOldOrNew bytes m calls → OldOrNew bytes m
first_keeps bytes [] m keeps = keeps
first_keeps bytes (call ∷ calls) m keeps = keeps.0

pub front_keeps : (bytes : List ℕ) (front more tail : List DiskCall) (m : Medium) → KeepsOldOrNew bytes m (front ++ more)
    → ((m' : Medium) → OldOrNew bytes m' → KeepsOldOrNew bytes m' tail) → KeepsOldOrNew bytes m (front ++ tail)
front_keeps bytes [] more tail m keeps rest = rest m (first_keeps bytes more m keeps)
front_keeps bytes (call ∷ front) more tail m keeps rest = (keeps.0, front_keeps bytes front more tail (with_done call.reason call m) keeps.1 rest)

pub failed_keeps : (bytes reason : List ℕ) (failed : DiskCall) (m : Medium) → failed.reason ≡ Some reason → OldOrNew bytes m → OldOrNew bytes (with_done failed.reason failed m)
failed_keeps bytes reason failed m why keeps = subst (λ (t : Option (List ℕ)). OldOrNew bytes (with_done t failed m)) (sym why) keeps

pub removed_keeps : (bytes new : List ℕ) (reason : Option (List ℕ)) (m : Medium) → OldOrNew bytes m
    → OldOrNew bytes (with_done reason (record { act = Remove; path = new; other = []; reason = reason }) m)
removed_keeps bytes new None m keeps = keeps
removed_keeps bytes new (Some reason) m keeps = keeps

pub unfilled_keeps : (new path bytes : List ℕ) (fault : FileFault) (calls : List DiskCall) → FailsToFill new path bytes fault calls → KeepsOldOrNew bytes empty calls
unfilled_keeps new path bytes fault calls (front, more, failed, cut, inl only) =
    subst (λ (t : List DiskCall). KeepsOldOrNew bytes empty t) (sym only)
    (front_keeps bytes front more (failed ∷ []) empty (filled_keeps new path bytes (front ++ more) cut.0)
    (λ m' keeps. (keeps, failed_keeps bytes (text_of fault) failed m' cut.1 keeps)))
unfilled_keeps new path bytes fault calls (front, more, failed, cut, inr (reason, only)) =
    subst (λ (t : List DiskCall). KeepsOldOrNew bytes empty t) (sym only)
    (front_keeps bytes front more (failed ∷ (record { act = Remove; path = new; other = []; reason = reason }) ∷ []) empty (filled_keeps new path bytes (front ++ more) cut.0)
    (λ m' keeps. (
      keeps,
      (
        failed_keeps bytes (text_of fault) failed m' cut.1 keeps,
        removed_keeps bytes new reason (with_done failed.reason failed m') (failed_keeps bytes (text_of fault) failed m' cut.1 keeps),
      ),
    )))
