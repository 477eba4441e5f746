-- The calls by which a new file gets its bytes and a path.
use Rattle.std.proofs.Common.{◌≡◌, ℕ, ◌-◌, ◌<◌, inl, inr, List, [], ◌∷◌, ◌++◌, length, take, drop, Option, Some, refl, sym, ap, subst, ◌∙◌, append_assoc, append-nil, take-append-drop, arith}
use Rattle.std.proofs.lemmas.List.{nil_from_length, take_all, length-drop}
use Rattle.p11_files.specs.Faults.{text_of}
use Rattle.p11_files.specs.Disks.{DiskCall, DiskState, Writes, Fills, CutFill, FailsToFill, call_on, well, with_calls}
use Rattle.p11_files.specs.declared.file_fault.FileFault.{FileFault}
use Rattle.p11_files.specs.declared.disk.Act.{Act}
use Rattle.p11_files.specs.declared.disk.Act.TheVariants.{Write, Sync, Rename, Settle, Remove}

-- calls behind calls
pub then_made : (a b c : DiskState) (calls more : List DiskCall) → b ≡ with_calls calls a → c ≡ with_calls more b → c ≡ with_calls (calls ++ more) a
then_made a b c calls more one two = two ∙ ap (with_calls more) one ∙ ap (λ (t : List DiskCall). record a { made = t }) (append_assoc a.made calls more)

-- a front of the text is taken, by these calls, and the rest is left
pub record Wrote (old new : DiskState) (text rest : List ℕ) : Type 0 where
  pub writes : List DiskCall
  pub front : List ℕ
  pub written : Writes front writes
  pub split : text ≡ front ++ rest
  pub made : new ≡ with_calls writes old

pub none_wrote : (s : DiskState) (text : List ℕ) → Wrote s s text text
none_wrote s text = record { writes = []; front = []; written = refl; split = refl; made = ap (λ (t : List DiskCall). record s { made = t }) (sym (append-nil s.made)) }

pub Writes-push : (front more : List ℕ) (writes : List DiskCall) → Writes front writes → Writes (front ++ more) (writes ++ well Write [] more ∷ [])
Writes-push front more [] h = (more, [], ap (λ (t : List ℕ). t ++ more) h ∙ sym (append-nil more), refl, refl)
Writes-push front more (call ∷ writes) h =
    (h.0, h.1 ++ more, ap (λ (t : List ℕ). t ++ more) h.2 ∙ append_assoc h.0 h.1 more, h.3, Writes-push h.1 more writes h.4)

-- what `&rest[n..]` leaves
pub more_wrote : (a b c : DiskState) (text rest : List ℕ) (n len : ℕ) → Wrote a b text rest → c ≡ with_calls (well Write [] (take n rest) ∷ []) b → len ≡ length rest - n → Wrote a c text (take len (drop n rest))
more_wrote a b c text rest n len so_far more e =
    let whole : take len (drop n rest) ≡ drop n rest = take_all len (drop n rest) (omega (arith, length-drop n rest)) in
    let call : List DiskCall = well Write [] (take n rest) ∷ [] in
    let left : Wrote a c text (drop n rest) = record {
      writes = so_far.writes ++ call;
      front = so_far.front ++ take n rest;
      written = Writes-push so_far.front (take n rest) so_far.writes so_far.written;
      split = so_far.split ∙ ap (λ (t : List ℕ). so_far.front ++ t) (sym (take-append-drop n rest)) ∙ sym (append_assoc so_far.front (take n rest) (drop n rest));
      made = then_made a b c so_far.writes call so_far.made more;
    } in
    subst (λ (t : List ℕ). Wrote a c text t) (sym whole) left

pub all_wrote : (a b : DiskState) (text rest : List ℕ) → Wrote a b text rest → length rest ≡ 0 → (writes : List DiskCall) × Writes text writes × (b ≡ with_calls writes a)
all_wrote a b text rest so_far none =
    let nil : rest ≡ [] = nil_from_length rest none in
    let whole : so_far.front ≡ text = sym (so_far.split ∙ ap (λ (t : List ℕ). so_far.front ++ t) nil ∙ append-nil so_far.front) in
    (so_far.writes, subst (λ (t : List ℕ). Writes t so_far.writes) whole so_far.written, so_far.made)

-- the next write failed
pub cut_wrote : (a b c : DiskState) (text rest : List ℕ) (fault : FileFault) (failed : DiskCall) → Wrote a b text rest → 0 < length rest
    → failed.reason ≡ Some (text_of fault) → c ≡ with_calls (failed ∷ []) b
    → (writes : List DiskCall) × (front : List ℕ) × (left : List ℕ) × (call : DiskCall) × Writes front writes × (0 < length left) × (text ≡ front ++ left)
    × (call.reason ≡ Some (text_of fault)) × (c ≡ with_calls (writes ++ call ∷ []) a)
cut_wrote a b c text rest fault failed so_far some why made = (
  so_far.writes,
  so_far.front,
  rest,
  failed,
  so_far.written,
  some,
  so_far.split,
  why,
  then_made a b c so_far.writes (failed ∷ []) so_far.made made,
)

abbrev pub behind_writes : List ℕ → List ℕ → List DiskCall
behind_writes new path = well Sync [] [] ∷ well Rename new path ∷ well Settle path [] ∷ []

-- a write failed: the rest of the bytes might have been written
pub cut_in_writes : (new path bytes front rest : List ℕ) (fault : FileFault) (writes : List DiskCall) (failed : DiskCall) → Writes front writes → bytes ≡ front ++ rest → failed.reason ≡ Some (text_of fault)
    → CutFill new path bytes fault writes (well Write [] rest ∷ behind_writes new path) failed
cut_in_writes new path bytes front rest fault writes failed written split why =
    let all : Writes bytes (writes ++ well Write [] rest ∷ []) = subst (λ (t : List ℕ). Writes t (writes ++ well Write [] rest ∷ [])) (sym split) (Writes-push front rest writes written) in
    ((writes ++ well Write [] rest ∷ [], all, sym (append_assoc writes (well Write [] rest ∷ []) (behind_writes new path))), why)

-- the disk didn't take them
pub cut_at_sync : (new path bytes : List ℕ) (fault : FileFault) (writes : List DiskCall) (failed : DiskCall) → Writes bytes writes → failed.reason ≡ Some (text_of fault)
    → CutFill new path bytes fault writes (behind_writes new path) failed
cut_at_sync new path bytes fault writes failed written why = ((writes, written, refl), why)

-- the path couldn't be had
pub cut_at_rename : (new path bytes : List ℕ) (fault : FileFault) (writes : List DiskCall) (failed : DiskCall) → Writes bytes writes → failed.reason ≡ Some (text_of fault)
    → CutFill new path bytes fault (writes ++ well Sync [] [] ∷ []) (well Rename new path ∷ well Settle path [] ∷ []) failed
cut_at_rename new path bytes fault writes failed written why =
    ((writes, written, append_assoc writes (well Sync [] [] ∷ []) (well Rename new path ∷ well Settle path [] ∷ [])), why)

-- its entry couldn't be brought to the disk
pub cut_at_settle : (new path bytes : List ℕ) (fault : FileFault) (writes : List DiskCall) (failed : DiskCall) → Writes bytes writes → failed.reason ≡ Some (text_of fault)
    → CutFill new path bytes fault (writes ++ well Sync [] [] ∷ well Rename new path ∷ []) (well Settle path [] ∷ []) failed
cut_at_settle new path bytes fault writes failed written why =
    ((writes, written, append_assoc writes (well Sync [] [] ∷ well Rename new path ∷ []) (well Settle path [] ∷ [])), why)

abbrev pub CutAfter : DiskState → DiskState → List ℕ → List ℕ → List ℕ → FileFault → Type 0
CutAfter a b new path bytes fault =
    (front : List DiskCall) × (more : List DiskCall) × (failed : DiskCall) × CutFill new path bytes fault front more failed × (b ≡ with_calls (front ++ failed ∷ []) a)

pub ends_in_writes : (a b : DiskState) (new path bytes : List ℕ) (fault : FileFault)
    → ((writes : List DiskCall) × (front : List ℕ) × (rest : List ℕ) × (failed : DiskCall) × Writes front writes × (0 < length rest) × (bytes ≡ front ++ rest)
    × (failed.reason ≡ Some (text_of fault)) × (b ≡ with_calls (writes ++ failed ∷ []) a))
    → CutAfter a b new path bytes fault
ends_in_writes a b new path bytes fault (writes, front, rest, failed, written, some, split, why, made) =
    (writes, _, failed, cut_in_writes new path bytes front rest fault writes failed written split why, made)

pub ends_at_sync : (a b c : DiskState) (new path bytes : List ℕ) (fault : FileFault)
    → ((writes : List DiskCall) × Writes bytes writes × (b ≡ with_calls writes a)) → c ≡ with_calls ((record { act = Sync; path = []; other = []; reason = Some (text_of fault) }) ∷ []) b
    → CutAfter a c new path bytes fault
ends_at_sync a b c new path bytes fault (writes, written, made) more =
    let failed : DiskCall = record { act = Sync; path = []; other = []; reason = Some (text_of fault) } in
    (writes, behind_writes new path, failed, cut_at_sync new path bytes fault writes failed written refl, then_made a b c writes _ made more)

pub ends_at_rename : (a b s c : DiskState) (new path bytes : List ℕ) (fault : FileFault)
    → ((writes : List DiskCall) × Writes bytes writes × (b ≡ with_calls writes a)) → s ≡ with_calls (well Sync [] [] ∷ []) b
    → c ≡ with_calls ((record { act = Rename; path = new; other = path; reason = Some (text_of fault) }) ∷ []) s
    → CutAfter a c new path bytes fault
ends_at_rename a b s c new path bytes fault (writes, written, made) synced more =
    let failed : DiskCall = record { act = Rename; path = new; other = path; reason = Some (text_of fault) } in
    (writes ++ well Sync [] [] ∷ [], well Rename new path ∷ well Settle path [] ∷ [], failed, cut_at_rename new path bytes fault writes failed written refl, then_made a s c (writes ++ well Sync [] [] ∷ []) _ (then_made a b s writes _ made synced) more)

pub ends_named : (a b s c : DiskState) (new path bytes : List ℕ)
    → ((writes : List DiskCall) × Writes bytes writes × (b ≡ with_calls writes a)) → s ≡ with_calls (well Sync [] [] ∷ []) b → c ≡ with_calls (well Rename new path ∷ []) s
    → (writes : List DiskCall) × Writes bytes writes × (c ≡ with_calls (writes ++ well Sync [] [] ∷ well Rename new path ∷ []) a)
ends_named a b s c new path bytes (writes, written, made) synced named =
    (writes, written, then_made a s c (writes ++ well Sync [] [] ∷ []) _ (then_made a b s writes _ made synced) named ∙ ap (λ (t : List DiskCall). with_calls t a) (append_assoc writes (well Sync [] [] ∷ []) (well Rename new path ∷ [])))

pub ends_at_settle : (a b c : DiskState) (new path bytes : List ℕ) (fault : FileFault)
    → ((writes : List DiskCall) × Writes bytes writes × (b ≡ with_calls (writes ++ well Sync [] [] ∷ well Rename new path ∷ []) a))
    → c ≡ with_calls ((record { act = Settle; path = path; other = []; reason = Some (text_of fault) }) ∷ []) b
    → (calls : List DiskCall) × FailsToFill new path bytes fault calls × (c ≡ with_calls calls a)
ends_at_settle a b c new path bytes fault (writes, written, made) more =
    let failed : DiskCall = record { act = Settle; path = path; other = []; reason = Some (text_of fault) } in
    (_, (writes ++ well Sync [] [] ∷ well Rename new path ∷ [], well Settle path [] ∷ [], failed, cut_at_settle new path bytes fault writes failed written refl, inl refl), then_made a b c (writes ++ well Sync [] [] ∷ well Rename new path ∷ []) _ made more)

pub ends_filled : (a b c : DiskState) (new path bytes : List ℕ)
    → ((writes : List DiskCall) × Writes bytes writes × (b ≡ with_calls (writes ++ well Sync [] [] ∷ well Rename new path ∷ []) a))
    → c ≡ with_calls (well Settle path [] ∷ []) b
    → (calls : List DiskCall) × Fills new path bytes calls × (c ≡ with_calls calls a)
ends_filled a b c new path bytes (writes, written, made) settled =
    (_, (writes, written, append_assoc writes (well Sync [] [] ∷ well Rename new path ∷ []) (well Settle path [] ∷ [])), then_made a b c (writes ++ well Sync [] [] ∷ well Rename new path ∷ []) _ made settled)

pub ends_removed : (a b c : DiskState) (new path bytes : List ℕ) (fault : FileFault) (reason : Option (List ℕ)) → CutAfter a b new path bytes fault
    → c ≡ with_calls ((record { act = Remove; path = new; other = []; reason = reason }) ∷ []) b
    → (calls : List DiskCall) × FailsToFill new path bytes fault calls × (c ≡ with_calls calls a)
ends_removed a b c new path bytes fault reason (front, more, failed, cut, made) removed =
    (_, (front, more, failed, cut, inr (reason, append_assoc front (failed ∷ []) _)), then_made a b c (front ++ failed ∷ []) _ made removed)
