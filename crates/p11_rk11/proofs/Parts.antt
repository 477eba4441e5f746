-- A controller is seen by its parts: one drive read, and one drive changed beside the registers.
use Rattle.std.proofs.Common.{◌≡◌, ℕ, zero, suc, ◌<◌, ◌≤◌, Bool, true, false, List, [], ◌∷◌, length, map, set, get_or, Option, Some, None, is_some, refl, sym, ap, subst, ◌∙◌, arith, inl, inr}
use Rattle.std.specs.Prelude.{IsTrue, nat_eq, ◌&&◌, Result, Ok, Err, OnOk, OnErr, nat_lt, if◌then◌else◌, slice_index_or}
use Rattle.std.specs.List.{list_any}
use Rattle.std.proofs.lemmas.Bool.{both_ways, cases_eq, lt-ltb, le-ltb}
use Rattle.std.proofs.lemmas.List.{get_or_default, get_or-set_same, get_or-set_other, length-set, map-set}
use Rattle.std.proofs.Math.Seq.{map-set_same}
use Rattle.std.proofs.Math.ListN.{get_or-map, length-map}
use Rattle.p11_rk11.specs.declared.registers.Registers.{Registers}
use Rattle.p11_rk11.specs.Calls.Parts.{disk_and_memory_with}
use Rattle.p11_memory.specs.Memory.{Words}
use Rattle.p11_rk11.specs.Place.{sector_number}
use Rattle.p11_rk11.specs.Functions.{is_write}
use Rattle.p11_rk11.proofs.Words.{accepted}
use Rattle.p11_words.specs.DueTurns.{is_due}
use Rattle.p11_rk11.specs.Drives.{MountedDrive}
use Rattle.p11_rk11.specs.Kept.View.{MountedState}
use Rattle.p11_rk11.specs.State.{Rk11State, drive_count, drive_of, selected, with_drive, with_registers_and_drive}
use Rattle.p11_rk11.specs.Calls.Heads.{heads_at}
use Rattle.p11_rk11.specs.Kept.View.{Rk11View, view_of, visible_drive, prepared_sectors, prepared_on, IsPreparedDrive, IsPreparedSector, IsPreparedFor, KeepsPrepared}
use Rattle.p11_rk11.specs.View.{write_is_due, needs_memory, is_listed}

set_again : {X : Type 0} (xs : List X) (n : ℕ) (a b : X) → set (set xs n a) n b ≡ set xs n b
set_again [] n a b = refl
set_again (x ∷ xs) zero a b = refl
set_again (x ∷ xs) (suc n) a b = ap (λ ys. x ∷ ys) (set_again xs n a b)

pub set_get : {X : Type 0} (xs : List X) (n : ℕ) (d : X) → set xs n (get_or xs n d) ≡ xs
set_get [] n d = refl
set_get (x ∷ xs) zero d = refl
set_get (x ∷ xs) (suc n) d = ap (λ ys. x ∷ ys) (set_get xs n d)

-- a drive that was taken and put back
pub put_back : (drives taken after : List (Option MountedState)) (n : ℕ) (b : Option MountedState) → taken ≡ set drives n None → after ≡ set taken n b → after ≡ set drives n b
put_back drives taken after n b rest put = put ∙ ap (λ (l : List (Option MountedState)). set l n b) rest ∙ set_again drives n None b

-- what is seen of a drive that is there
pub drive_seen : (r : Registers) (drives : List (Option MountedState)) (n : ℕ) (b d : Option MountedState) → n < drive_count → length drives ≡ drive_count
    → b ≡ get_or drives n d → drive_of (view_of r drives).state n ≡ visible_drive b
unfolding drive_of
drive_seen r drives n b d lt len is =
    let test : nat_lt n drive_count ≡ true = lt-ltb n drive_count lt in
    let here : get_or drives n None ≡ b = get_or_default drives n None d (omega (arith, lt, len)) ∙ sym is in
    ap (λ (t : Bool). if t then get_or (map visible_drive drives) n None else None) test
    ∙ get_or-map visible_drive drives n None
    ∙ ap visible_drive here

-- and of one that isn't
pub no_drive_seen : (s : Rk11State) (n : ℕ) → drive_count ≤ n → drive_of s n ≡ None
unfolding drive_of
no_drive_seen s n le = ap (λ (t : Bool). if t then slice_index_or s.drives n None else None) (le-ltb n drive_count le)

-- a drive that was changed
pub drive_changed : (r : Registers) (drives : List (Option MountedState)) (n : ℕ) (b : Option MountedState) → n < drive_count
    → (view_of r (set drives n b)).state ≡ with_drive (view_of r drives).state n (visible_drive b)
unfolding with_drive
drive_changed r drives n b lt =
    let test : nat_lt n drive_count ≡ true = lt-ltb n drive_count lt in
    let seen : List (Option MountedDrive) → Rk11State = λ list. record { registers = r; drives = list } in
    ap seen (map-set visible_drive drives n b)
    ∙ ap (λ (t : Bool). if t then seen (set (map visible_drive drives) n (visible_drive b)) else seen (map visible_drive drives)) (sym test)

-- the registers and a drive that were changed together
pub part_changed : (r r' : Registers) (drives : List (Option MountedState)) (n : ℕ) (b b' d : Option MountedState) (step : Registers → Option MountedDrive → Registers × Option MountedDrive)
    → n < drive_count → length drives ≡ drive_count → b ≡ get_or drives n d → step r (visible_drive b) ≡ (r', visible_drive b')
    → (view_of r' (set drives n b')).state ≡ with_registers_and_drive (view_of r drives).state n (step r (drive_of (view_of r drives).state n))
unfolding with_registers_and_drive
part_changed r r' drives n b b' d step lt len is done =
    let s : Rk11State = (view_of r drives).state in
    let after : step r (drive_of s n) ≡ (r', visible_drive b') = ap (λ d. step r d) (drive_seen r drives n b d lt len is) ∙ done in
    ap (λ (t : Rk11State). record t { registers = r' }) (drive_changed r drives n b' lt)
    ∙ ap (λ (p : Registers × Option MountedDrive). record (with_drive s n p.1) { registers = p.0 }) (sym after)

-- what is prepared stays
pub prepared_same : (drives : List (Option MountedState)) (n : ℕ) (b b' d : Option MountedState) → n < length drives
    → b ≡ get_or drives n d → prepared_sectors b' ≡ prepared_sectors b
    → map prepared_sectors (set drives n b') ≡ map prepared_sectors drives
prepared_same drives n b b' d lt is same = map-set_same prepared_sectors drives n b' d (same ∙ ap prepared_sectors is)

-- what is prepared on a drive that is there
pub prepared_seen : (r : Registers) (drives : List (Option MountedState)) (n : ℕ) (b d : Option MountedState) → n < length drives
    → b ≡ get_or drives n d → prepared_on (view_of r drives) n ≡ prepared_sectors b
unfolding prepared_on
prepared_seen r drives n b d lt is =
    get_or-map prepared_sectors drives n None ∙ ap prepared_sectors (get_or_default drives n None d lt ∙ sym is)

-- a drive and the controller are prepared alike
pub prepared_within : (v : Rk11View) (r : Registers) (drives : List (Option MountedState)) (n : ℕ) (b d : Option MountedState) (sector : ℕ)
    → view_of r drives ≡ v → n < drive_count → length drives ≡ drive_count → b ≡ get_or drives n d
    → IsPreparedDrive (drive_of v.state n) (prepared_on v n) sector → IsPreparedDrive (visible_drive b) (prepared_sectors b) sector
prepared_within v r drives n b d sector view lt len is h =
    let P : Rk11View → Type 0 = λ v. IsPreparedDrive (drive_of v.state n) (prepared_on v n) sector in
    let Q : Option MountedDrive → Type 0 = λ d. IsPreparedDrive d (prepared_on (view_of r drives) n) sector in
    let R : List ℕ → Type 0 = λ l. IsPreparedDrive (visible_drive b) l sector in
    subst R (prepared_seen r drives n b d (omega (arith, lt, len)) is) (subst Q (drive_seen r drives n b d lt len is) (subst P (sym view) h))

pub prepared_whole : (r : Registers) (drives : List (Option MountedState)) (n : ℕ) (b d : Option MountedState) (sector : ℕ)
    → n < drive_count → length drives ≡ drive_count → b ≡ get_or drives n d
    → IsPreparedDrive (visible_drive b) (prepared_sectors b) sector
    → IsPreparedDrive (drive_of (view_of r drives).state n) (prepared_on (view_of r drives) n) sector
prepared_whole r drives n b d sector lt len is h =
    let Q : Option MountedDrive → Type 0 = λ d. IsPreparedDrive d (prepared_on (view_of r drives) n) sector in
    let R : List ℕ → Type 0 = λ l. IsPreparedDrive (visible_drive b) l sector in
    subst Q (sym (drive_seen r drives n b d lt len is)) (subst R (sym (prepared_seen r drives n b d (omega (arith, lt, len)) is)) h)

-- a moved sector changed the registers, a drive and memory
pub sector_changed : (r r' : Registers) (drives : List (Option MountedState)) (n : ℕ) (b b' d : Option MountedState) (m m' : Words)
    (step : Registers → Option MountedDrive → Words → Registers × Option MountedDrive × Words)
    → n < drive_count → length drives ≡ drive_count → b ≡ get_or drives n d → step r (visible_drive b) m ≡ (r', visible_drive b', m')
    → disk_and_memory_with (view_of r drives).state n (step r (drive_of (view_of r drives).state n) m) ≡ ((view_of r' (set drives n b')).state, m')
sector_changed r r' drives n b b' d m m' step lt len is done =
    let s : Rk11State = (view_of r drives).state in
    let after : step r (drive_of s n) m ≡ (r', visible_drive b', m') = ap (λ d. step r d m) (drive_seen r drives n b d lt len is) ∙ done in
    let put : (view_of r' (set drives n b')).state ≡ with_registers_and_drive s n (r', visible_drive b') =
    part_changed r r' drives n b b' d (λ _ _. (r', visible_drive b')) lt len is refl in
    ap (λ moved. disk_and_memory_with s n moved) after ∙ ap (λ (t : Rk11State). (t, m')) (sym put)

-- The same for the drive that RKDA selects, whose number n the code has read.

pub selected_changed : (r r' : Registers) (drives : List (Option MountedState)) (n : ℕ) (b b' d : Option MountedState) (step : Registers → Option MountedDrive → Registers × Option MountedDrive)
    → n ≡ r.disk_address.drive → n < drive_count → length drives ≡ drive_count → b ≡ get_or drives n d → step r (visible_drive b) ≡ (r', visible_drive b')
    → (view_of r' (set drives n b')).state ≡ with_registers_and_drive (view_of r drives).state r.disk_address.drive (step r (selected (view_of r drives).state))
selected_changed r r' drives n b b' d step same lt len is done =
    let s : Rk11State = (view_of r drives).state in
    part_changed r r' drives n b b' d step lt len is done ∙ ap (λ (k : ℕ). with_registers_and_drive s k (step r (drive_of s k))) same

pub selected_moved : (r r' : Registers) (drives : List (Option MountedState)) (n : ℕ) (b b' d : Option MountedState) (m m' : Words)
    (step : Registers → Option MountedDrive → Words → Registers × Option MountedDrive × Words)
    → n ≡ r.disk_address.drive → n < drive_count → length drives ≡ drive_count → b ≡ get_or drives n d → step r (visible_drive b) m ≡ (r', visible_drive b', m')
    → disk_and_memory_with (view_of r drives).state r.disk_address.drive (step r (selected (view_of r drives).state) m) ≡ ((view_of r' (set drives n b')).state, m')
selected_moved r r' drives n b b' d m m' step same lt len is done =
    let s : Rk11State = (view_of r drives).state in
    ap (λ (k : ℕ). disk_and_memory_with s k (step r (drive_of s k) m)) (sym same) ∙ sector_changed r r' drives n b b' d m m' step lt len is done

pub selected_prepared : (v : Rk11View) (r : Registers) (drives : List (Option MountedState)) (n : ℕ) (b d : Option MountedState)
    → view_of r drives ≡ v → n ≡ r.disk_address.drive → n < drive_count → length drives ≡ drive_count → b ≡ get_or drives n d
    → IsPreparedSector v → IsPreparedDrive (visible_drive b) (prepared_sectors b) (sector_number r.disk_address)
selected_prepared v r drives n b d view same lt len is h =
    let w : Rk11View = view_of r drives in
    let P : Rk11View → Type 0 = λ v. IsPreparedSector v in
    let Q : ℕ → Type 0 = λ k. IsPreparedDrive (drive_of w.state k) (prepared_on w k) (sector_number r.disk_address) in
    prepared_within w r drives n b d (sector_number r.disk_address) refl lt len is (subst Q (sym same) (subst P (sym view) h))

pub prepared_selected : (r : Registers) (drives : List (Option MountedState)) (n : ℕ) (b d : Option MountedState)
    → n ≡ r.disk_address.drive → n < drive_count → length drives ≡ drive_count → b ≡ get_or drives n d
    → IsPreparedDrive (visible_drive b) (prepared_sectors b) (sector_number r.disk_address) → IsPreparedSector (view_of r drives)
prepared_selected r drives n b d same lt len is h =
    let w : Rk11View = view_of r drives in
    let Q : ℕ → Type 0 = λ k. IsPreparedDrive (drive_of w.state k) (prepared_on w k) (sector_number r.disk_address) in
    subst Q same (prepared_whole r drives n b d (sector_number r.disk_address) lt len is h)

pub selected_seen : (r : Registers) (drives : List (Option MountedState)) (n : ℕ) (b d : Option MountedState) → n ≡ r.disk_address.drive → n < drive_count → length drives ≡ drive_count
    → b ≡ get_or drives n d → selected (view_of r drives).state ≡ visible_drive b
selected_seen r drives n b d same lt len is =
    ap (λ (k : ℕ). drive_of (view_of r drives).state k) (sym same) ∙ drive_seen r drives n b d lt len is

-- what is seen stays
pub visible_same : (r : Registers) (drives : List (Option MountedState)) (n : ℕ) (b b' d : Option MountedState) → b ≡ get_or drives n d
    → visible_drive b' ≡ visible_drive b → (view_of r (set drives n b')).state ≡ (view_of r drives).state
visible_same r drives n b b' d is same =
    ap (λ (list : List (Option MountedDrive)). let s : Rk11State = record { registers = r; drives = list } in s)
    (map-set_same visible_drive drives n b' d (same ∙ ap visible_drive is))

-- and so does the whole where a drive is put back as it was
pub view_same : (v : Rk11View) (r : Registers) (drives : List (Option MountedState)) (n : ℕ) (b b' d : Option MountedState) → view_of r drives ≡ v
    → b ≡ get_or drives n d → b' ≡ b → view_of r (set drives n b') ≡ v
view_same v r drives n b b' d view is same =
    ap (λ (list : List (Option MountedState)). view_of r list) (ap (λ (b : Option MountedState). set drives n b) (same ∙ is) ∙ set_get drives n d) ∙ view

pub prepared_changed : (drives : List (Option MountedState)) (n : ℕ) (b : Option MountedState)
    → map prepared_sectors (set drives n b) ≡ set (map prepared_sectors drives) n (prepared_sectors b)
prepared_changed drives n b = map-set prepared_sectors drives n b

pub prepared_after : (r : Registers) (drives : List (Option MountedState)) (n : ℕ) (b : Option MountedState)
    → n ≡ r.disk_address.drive → n < drive_count → length drives ≡ drive_count
    → IsPreparedDrive (visible_drive b) (prepared_sectors b) (sector_number r.disk_address) → IsPreparedSector (view_of r (set drives n b))
prepared_after r drives n b same lt len h =
    prepared_selected r (set drives n b) n b None same lt (length-set drives n b ∙ len) (sym (get_or-set_same drives n b None (omega (arith, lt, len)))) h

pub no_heads : (o : Option MountedDrive) → is_some o ≡ true → heads_at o ≡ None → ⊥
no_heads None some none = cc some
no_heads (Some d) some none = cc none

pub on_ok : {P Q E : Type 0} (r : Result (Unit {0}) E) → (P → Q) → OnOk r P → OnOk r Q
on_ok (Ok u) f p = f p
on_ok (Err e) f p = p

pub on_err : {U P Q E : Type 0} (r : Result U E) → (P → Q) → OnErr r P → OnErr r Q
on_err (Ok u) f p = p
on_err (Err e) f p = f p

pub both_true : (a b : Bool) → a ≡ true → b ≡ true → a && b ≡ true
both_true a b ha hb = rw (ha, hb) refl

-- a drive that was changed by itself
pub drive_mapped : (r : Registers) (drives : List (Option MountedState)) (n : ℕ) (b b' d : Option MountedState) (f : Option MountedDrive → Option MountedDrive)
    → n < drive_count → length drives ≡ drive_count → b ≡ get_or drives n d → visible_drive b' ≡ f (visible_drive b)
    → (view_of r (set drives n b')).state ≡ with_drive (view_of r drives).state n (f (drive_of (view_of r drives).state n))
drive_mapped r drives n b b' d f lt len is done =
    let s : Rk11State = (view_of r drives).state in
    drive_changed r drives n b' lt ∙ ap (λ drive. with_drive s n drive) (done ∙ ap f (sym (drive_seen r drives n b d lt len is)))

pub due_needless : (turn : ℕ) (s : Rk11State) → needs_memory turn s ≡ false → write_is_due turn s ≡ true → is_listed (selected s) (sector_number s.registers.disk_address) ≡ true
unfolding needs_memory
due_needless turn s needless due = accepted _ _ needless due

-- what a due sector of a write finds
pub prepared_to_move : (turn : ℕ) (v : Rk11View) → IsPreparedFor turn v → is_due turn v.state.registers.transfer ≡ true
    → is_write v.state.registers.function ≡ true → IsPreparedSector v
unfolding IsPreparedFor write_is_due
prepared_to_move turn v prepared due write = prepared (both_true _ _ due write)

pub prepared_if_ok : {E : Type 0} (turn : ℕ) (v : Rk11View) (r : Result (Unit {0}) E) → OnOk r (IsPreparedSector v) → OnOk r (IsPreparedFor turn v)
unfolding IsPreparedFor
prepared_if_ok turn v (Ok u) p = λ due. p
prepared_if_ok turn v (Err e) p = p

pub not_due_prepared : (turn : ℕ) (v : Rk11View) → write_is_due turn v.state ≡ false → IsPreparedFor turn v
unfolding IsPreparedFor
not_due_prepared turn v none due = absurd (both_ways _ none due)

pub due_prepared : (turn : ℕ) (v : Rk11View) → IsPreparedFor turn v → write_is_due turn v.state ≡ true → IsPreparedSector v
unfolding IsPreparedFor
due_prepared turn v prepared due = prepared due

-- what was prepared on any drive still is, where it is on the one that changed
pub others_prepared : (r : Registers) (drives : List (Option MountedState)) (n : ℕ) (b b' d : Option MountedState) → n < drive_count → length drives ≡ drive_count → b ≡ get_or drives n d
    → ((m : ℕ) → IsTrue (list_any (nat_eq m) (prepared_sectors b)) → IsTrue (list_any (nat_eq m) (prepared_sectors b')))
    → KeepsPrepared (view_of r drives) (view_of r (set drives n b'))
unfolding prepared_on
others_prepared r drives n b b' d lt len is keeps k m h =
    let P : List ℕ → Type 0 = λ l. IsTrue (list_any (nat_eq m) l) in
    let Q : List (List ℕ) → Type 0 = λ l. IsTrue (list_any (nat_eq m) (get_or l k [])) in
    let sectors : List (List ℕ) = map prepared_sectors drives in
    subst Q (sym (prepared_changed drives n b'))
    (elim (cases_eq k n) [
      | inl e ↦
          let here : get_or sectors k [] ≡ prepared_sectors b =
          ap (λ (i : ℕ). get_or sectors i []) e ∙ get_or-map prepared_sectors drives n None
          ∙ ap prepared_sectors (get_or_default drives n None d (omega (arith, lt, len)) ∙ sym is) in
          let there : get_or (set sectors n (prepared_sectors b')) k [] ≡ prepared_sectors b' =
          ap (λ (i : ℕ). get_or (set sectors n (prepared_sectors b')) i []) e
          ∙ get_or-set_same sectors n (prepared_sectors b') [] (omega (arith, lt, len, length-map drives prepared_sectors)) in
          subst P (sym there) (keeps m (subst P here h))
      | inr other ↦ subst P (sym (get_or-set_other sectors n k (prepared_sectors b') [] other)) h
    ])
