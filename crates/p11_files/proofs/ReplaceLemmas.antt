-- How a name's file is replaced, by what its parts did.
use Rattle.std.proofs.Common.{◌≡◌, ℕ, inl, inr, true, Result, Ok, Err, OnOk, IfErr, List, [], ◌∷◌, ◌++◌, Option, None, Some, refl, sym, ap, ◌∙◌}
use Rattle.p11_files.specs.Faults.{text_of, is_own}
use Rattle.p11_files.specs.Disks.{DiskCall, DiskState, Beside, FailsToFill, FailsToPlace, FailsToReplace, Fills, Leads, OnlyLooked, Places, Replaces, WhyNot, well, with_calls}
use Rattle.p11_files.specs.declared.file_fault.FileFault.{FileFault}
use Rattle.p11_files.specs.declared.disk.Act.TheVariants.{Create}
use Rattle.p11_files.proofs.FillLemmas.{then_made}

pub why_later : (fault : FileFault) (s m s' : DiskState) → m.reason ≡ s.reason → WhyNot fault m s' → WhyNot fault s s'
why_later fault s m s' same (inl failed) = inl failed
why_later fault s m s' same (inr (own, none)) = inr (own, none ∙ same)

pub leads_after : (folder : Option (List ℕ)) (name path : List ℕ) (calls : List DiskCall) (s s' : DiskState) → s' ≡ with_calls calls s → Leads folder name path s → Leads folder name path s'
leads_after None name path calls s s' e leads = ap (λ (t : DiskState). t.located) e ∙ leads
leads_after (Some folder) name path calls s s' e (parent, last, behind, one, located, whole, split) =
    (parent, last, behind, one, ap (λ (t : DiskState). t.located) e ∙ located, ap (λ (t : DiskState). t.whole) e ∙ whole, split)

pub replaced : (folder : Option (List ℕ)) (name path bytes : List ℕ) (s m s' : DiskState) → Leads folder name path m → m.made ≡ s.made → Places path bytes m s' → Replaces folder name bytes s s'
replaced folder name path bytes s m s' leads same (new, calls, beside, fills, made) = (
  path,
  new,
  calls,
  leads_after folder name path _ m s' made leads,
  beside,
  fills,
  ap (λ (t : DiskState). t.made) made ∙ ap (λ (t : List DiskCall). t ++ (well Create new [] ∷ calls)) same,
)

pub not_found : (folder : Option (List ℕ)) (name bytes : List ℕ) (fault : FileFault) (s s' : DiskState) → s'.made ≡ s.made → WhyNot fault s s' → FailsToReplace folder name bytes fault s s'
not_found folder name bytes fault s s' same why = inl (same, why)

pub not_placed : (folder : Option (List ℕ)) (name path bytes : List ℕ) (fault : FileFault) (s m s' : DiskState) → Leads folder name path m → m.made ≡ s.made → m.reason ≡ s.reason → FailsToPlace path bytes fault m s'
    → FailsToReplace folder name bytes fault s s'
not_placed folder name path bytes fault s m s' leads same none (inl (looked, why)) = inl (looked.0 ∙ same, why_later fault s m s' none why)
not_placed folder name path bytes fault s m s' leads same none (inr (new, calls, beside, fails, made)) =
    inr (
      path,
      new,
      calls,
      leads_after folder name path _ m s' made leads,
      beside,
      fails,
      ap (λ (t : DiskState). t.made) made ∙ ap (λ (t : List DiskCall). t ++ (well Create new [] ∷ calls)) same,
    )

pub placed : (path new bytes : List ℕ) (s m s' : DiskState) → Beside path new → m ≡ with_calls (well Create new [] ∷ []) s
    → ((calls : List DiskCall) × Fills new path bytes calls × (s' ≡ with_calls calls m)) → Places path bytes s s'
placed path new bytes s m s' beside made (calls, fills, more) = (new, calls, beside, fills, then_made s m s' (well Create new [] ∷ []) calls made more)

pub not_filled : (path new bytes : List ℕ) (fault : FileFault) (s m s' : DiskState) → Beside path new → m ≡ with_calls (well Create new [] ∷ []) s
    → ((calls : List DiskCall) × FailsToFill new path bytes fault calls × (s' ≡ with_calls calls m)) → FailsToPlace path bytes fault s s'
not_filled path new bytes fault s m s' beside made (calls, fails, more) = inr (new, calls, beside, fails, then_made s m s' (well Create new [] ∷ []) calls made more)

pub not_made : (path bytes : List ℕ) (fault : FileFault) (s s' : DiskState) → OnlyLooked s s' × WhyNot fault s s' → FailsToPlace path bytes fault s s'
not_made path bytes fault s s' looked = inl looked

pub OnOk-map : {T E P Q : Type 0} (r : Result T E) → (P → Q) → OnOk r P → OnOk r Q
OnOk-map (Ok value) step p = step p
OnOk-map (Err error) step p = tt

pub IfErr-map : {T E : Type 0} {P Q : E → Type 0} (r : Result T E) → ((error : E) → P error → Q error) → IfErr r P → IfErr r Q
IfErr-map (Ok value) step p = tt
IfErr-map (Err error) step p = step error p
