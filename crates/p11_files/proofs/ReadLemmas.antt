-- How a file is read, by its reads.
use Rattle.std.proofs.Common.{◌≡◌, ℕ, inl, inr, true, false, List, [], ◌∷◌, ◌++◌, Option, None, Some, refl, sym, ap, ◌∙◌, subst, append_assoc, append-nil}
use Rattle.p11_files.specs.Disks.{DiskCall, DiskState, Names, Reads, ReadsFile, WhyNot, well, with_calls}
use Rattle.p11_files.specs.declared.file_fault.FileFault.{FileFault}
use Rattle.p11_files.specs.declared.disk.Act.TheVariants.{Open, Read}
use Rattle.p11_files.proofs.FillLemmas.{then_made}

pub names_after : (folder : Option (List ℕ)) (name path : List ℕ) (calls : List DiskCall) (s s' : DiskState) → s' ≡ with_calls calls s → Names folder name path s → Names folder name path s'
names_after None name path calls s s' e names = names
names_after (Some folder) name path calls s s' e (behind, split, whole) = (behind, split, ap (λ (t : DiskState). t.whole) e ∙ whole)

pub read_whole : (folder : Option (List ℕ)) (name bytes : List ℕ) (s m s' : DiskState)
    → ((path : List ℕ) × Names folder name path m × (m.made ≡ s.made ++ well Open path [] ∷ []) × (m.reason ≡ s.reason))
    → ((reads : List DiskCall) × Reads bytes reads × (s' ≡ with_calls (reads ++ well Read [] [] ∷ []) m)) → ReadsFile folder name bytes s s'
read_whole folder name bytes s m s' (path, names, opened, none) (reads, gives, made) = (
  path,
  reads,
  names_after folder name path _ m s' made names,
  gives,
  ap (λ (t : DiskState). t.made) made ∙ ap (λ (t : List DiskCall). t ++ (reads ++ well Read [] [] ∷ [])) opened ∙ append_assoc s.made (well Open path [] ∷ []) _,
)

-- these bytes were read, by reads that went well
pub record Gave (s s' : DiskState) (bytes : List ℕ) : Type 0 where
  pub reads : List DiskCall
  pub gives : Reads bytes reads
  pub made : s' ≡ with_calls reads s

pub none_gave : (s : DiskState) → Gave s s []
none_gave s = record { reads = []; gives = refl; made = ap (λ (t : List DiskCall). record s { made = t }) (sym (append-nil s.made)) }

pub Reads-push : (front more : List ℕ) (reads : List DiskCall) → Reads front reads → Reads (front ++ more) (reads ++ well Read [] more ∷ [])
Reads-push front more [] h = (more, [], ap (λ (t : List ℕ). t ++ more) h ∙ sym (append-nil more), refl, refl)
Reads-push front more (call ∷ reads) h =
    (h.0, h.1 ++ more, ap (λ (t : List ℕ). t ++ more) h.2 ∙ append_assoc h.0 h.1 more, h.3, Reads-push h.1 more reads h.4)

pub more_gave : (s m s' : DiskState) (bytes all given : List ℕ) → Gave s m bytes → all ≡ bytes ++ given → s' ≡ with_calls (well Read [] given ∷ []) m → Gave s s' all
more_gave s m s' bytes all given so_far split more =
    record {
      reads = so_far.reads ++ well Read [] given ∷ [];
      gives = subst (λ (t : List ℕ). Reads t (so_far.reads ++ well Read [] given ∷ [])) (sym split) (Reads-push bytes given so_far.reads so_far.gives);
      made = then_made s m s' so_far.reads (well Read [] given ∷ []) so_far.made more;
    }

pub all_gave : (s m s' : DiskState) (bytes all given : List ℕ) → Gave s m bytes → given ≡ [] → all ≡ bytes ++ given → s' ≡ with_calls (well Read [] given ∷ []) m
    → (reads : List DiskCall) × Reads all reads × (s' ≡ with_calls (reads ++ well Read [] [] ∷ []) s)
all_gave s m s' bytes all given so_far none split more =
    let whole : all ≡ bytes = split ∙ ap (λ (t : List ℕ). bytes ++ t) none ∙ append-nil bytes in
    let last : s' ≡ with_calls (well Read [] [] ∷ []) m = more ∙ ap (λ (t : List ℕ). with_calls (well Read [] t ∷ []) m) none in
    (so_far.reads, subst (λ (t : List ℕ). Reads t so_far.reads) (sym whole) so_far.gives, then_made s m s' so_far.reads (well Read [] [] ∷ []) so_far.made last)

pub gave_reason : (s s' : DiskState) (bytes : List ℕ) → Gave s s' bytes → s'.reason ≡ s.reason
gave_reason s s' bytes gave = ap (λ (t : DiskState). t.reason) gave.made
