-- Acts and due turns: nothing acts before it is due, and what has acted is due later or not at all.
use Rattle.std.proofs.Common.{◌≡◌, ℕ, zero, suc, ◌+◌, ◌<◌, ◌≤◌, Bool, true, false, List, length, set, get_or, Option, Some, None, refl, sym, ap, subst, ◌∙◌, arith, inl, inr}
use Rattle.std.specs.Prelude.{bit_or, ◌&&◌, ◌||◌, ◌==◌, nat_le, nat_lt, if◌then◌else◌}
use Rattle.std.proofs.lemmas.Bool.{both_ways, cases_lt, cases_eq, eq-eqb, lt-ltb, ne_eqb, cases_Bool}
use Rattle.std.proofs.lemmas.List.{get_or_past, get_or-set_same, get_or-set_other, length-set}
use Rattle.std.proofs.Math.Seq.{map-set_same}
use Rattle.std.proofs.Math.ListN.{get_or-map}
use Rattle.p11_rk11.specs.declared.registers.Registers.{Registers}
use Rattle.p11_rk11.specs.Acts.{disk_after_turn, disk_after_transfer, disk_after_seek, disk_after_seeks, after_seek_on, after_sector_on, after_sector, drive_after_seek, registers_after_seek, differs, is_refused}
use Rattle.p11_rk11.specs.Drives.{MountedDrive}
use Rattle.p11_memory.specs.Memory.{Words}
use Rattle.p11_rk11.specs.declared.errors.Failure.TheVariants.{Overrun}
use Rattle.p11_rk11.specs.Registers.{counters_advanced, ended, failed, requested, registers_after_sector, words_left}
use Rattle.p11_words.specs.DueTurns.{is_due}
use Rattle.p11_rk11.specs.State.{Rk11State, drive_count, drive_of, with_drive, with_registers_and_drive, selected, seek_turn, seek_due, earlier}
use Rattle.p11_rk11.specs.Calls.Due.{due_among, disk_due}
use Rattle.p11_rk11.specs.Laws.DueTurns.{IsBefore, IsNotAfter}
use Rattle.p11_rk11.proofs.Parts.{set_get}

-- a turn before the earlier of two due turns is before both
before_both : (turn : ℕ) (a b : Option ℕ) → IsBefore turn (earlier a b) → IsBefore turn a × IsBefore turn b
unfolding earlier
before_both turn None b h = (tt, h)
before_both turn (Some a) None h = (h, tt)
before_both turn (Some a) (Some b) h = (omega (arith, h), omega (arith, h))

before_earlier : (turn : ℕ) (a b : Option ℕ) → IsBefore turn a → IsBefore turn b → IsBefore turn (earlier a b)
unfolding earlier
before_earlier turn None b ha hb = hb
before_earlier turn (Some a) None ha hb = ha
before_earlier turn (Some a) (Some b) ha hb = omega (arith, ha, hb)

not_after_both : (turn : ℕ) (a b : Option ℕ) → IsNotAfter turn (earlier a b) → IsNotAfter turn a × IsNotAfter turn b
unfolding earlier
not_after_both turn None b h = (tt, h)
not_after_both turn (Some a) None h = (h, tt)
not_after_both turn (Some a) (Some b) h = (omega (arith, h), omega (arith, h))

-- the due turns of the transfer and of each seek
before_each : (turn n : ℕ) (s : Rk11State) → IsBefore turn (due_among n s) → IsBefore turn s.registers.transfer × ((k : ℕ) → k < n → IsBefore turn (seek_due (drive_of s k)))
unfolding due_among
before_each turn zero s h = (h, λ k lt. absurd (omega (arith, lt)))
before_each turn (suc n) s h =
    let both = before_both turn (due_among n s) (seek_due (drive_of s n)) h in
    let rest = before_each turn n s both.0 in (
      rest.0,
      λ k lt. elim (cases_lt k n) [
        | inl below ↦ rest.1 k below
        | inr at ↦ let e : k ≡ n = omega (arith, lt, at) in rw e both.1
      ],
    )

before_all : (turn n : ℕ) (s : Rk11State) → IsBefore turn s.registers.transfer → ((k : ℕ) → k < n → IsBefore turn (seek_due (drive_of s k))) → IsBefore turn (due_among n s)
unfolding due_among
before_all turn zero s transfer seeks = transfer
before_all turn (suc n) s transfer seeks =
    before_earlier turn (due_among n s) (seek_due (drive_of s n)) (before_all turn n s transfer (λ k lt. seeks k (omega (arith, lt)))) (seeks n (omega arith))

not_after_each : (turn n : ℕ) (s : Rk11State) → IsNotAfter turn (due_among n s) → IsNotAfter turn s.registers.transfer × ((k : ℕ) → k < n → IsNotAfter turn (seek_due (drive_of s k)))
unfolding due_among
not_after_each turn zero s h = (h, λ k lt. absurd (omega (arith, lt)))
not_after_each turn (suc n) s h =
    let both = not_after_both turn (due_among n s) (seek_due (drive_of s n)) h in
    let rest = not_after_each turn n s both.0 in (
      rest.0,
      λ k lt. elim (cases_lt k n) [
        | inl below ↦ rest.1 k below
        | inr at ↦ let e : k ≡ n = omega (arith, lt, at) in rw e both.1
      ],
    )

not_due : (turn : ℕ) (due : Option ℕ) → IsBefore turn due → is_due turn due ≡ false
unfolding is_due
not_due turn None h = refl
not_due turn (Some due) h = ne_eqb due turn (λ e. omega (arith, h, e))

-- a list with an element put where it was
same_drive : (s : Rk11State) (n : ℕ) → with_drive s n (drive_of s n) ≡ s
unfolding with_drive drive_of
same_drive s n =
    elim (cases_Bool (nat_lt n drive_count)) [
      | inl holds ↦ rw holds (ap (λ (drives : List (Option MountedDrive)). record s { drives = drives }) (set_get s.drives n None))
      | inr fails ↦ rw fails refl
    ]

same_registers_and_drive : (s : Rk11State) (n : ℕ) → with_registers_and_drive s n (s.registers, drive_of s n) ≡ s
unfolding with_registers_and_drive
same_registers_and_drive s n = ap (λ (t : Rk11State). record t { registers = s.registers }) (same_drive s n)

no_seek : (turn n : ℕ) (r : Registers) (d : Option MountedDrive) → IsBefore turn (seek_due d) → after_seek_on turn n r d ≡ (r, d)
unfolding seek_due
no_seek turn n r None h = refl
no_seek turn n r (Some drive) h = rw (not_due turn (seek_turn drive.seek) h) refl

-- a drive whose seek isn't due stays, and so does the disk
not_due_on : (turn n : ℕ) (r : Registers) (d : Option MountedDrive) → is_due turn (seek_due d) ≡ false → after_seek_on turn n r d ≡ (r, d)
unfolding seek_due
not_due_on turn n r None h = refl
not_due_on turn n r (Some drive) h = rw h refl

pub seek_not_due : (turn n : ℕ) (s : Rk11State) → is_due turn (seek_due (drive_of s n)) ≡ false → disk_after_seek turn n s ≡ s
unfolding disk_after_seek
seek_not_due turn n s h = rw (not_due_on turn n s.registers (drive_of s n) h) (same_registers_and_drive s n)

no_seek_act : (turn n : ℕ) (s : Rk11State) → IsBefore turn (seek_due (drive_of s n)) → disk_after_seek turn n s ≡ s
unfolding disk_after_seek
no_seek_act turn n s h = rw (no_seek turn n s.registers (drive_of s n) h) (same_registers_and_drive s n)

no_seeks : (turn n : ℕ) (s : Rk11State) → ((k : ℕ) → k < n → IsBefore turn (seek_due (drive_of s k))) → disk_after_seeks turn n s ≡ s
unfolding disk_after_seeks
no_seeks turn zero s h = refl
no_seeks turn (suc n) s h =
    ap (disk_after_seek turn n) (no_seeks turn n s (λ k lt. h k (omega (arith, lt)))) ∙ no_seek_act turn n s (h n (omega arith))

pub nothing_before_due : (s : Rk11State) (memory : Words) (turn : ℕ) → IsBefore turn (disk_due s) → disk_after_turn turn s memory ≡ (s, memory)
unfolding disk_after_turn disk_after_transfer disk_due
nothing_before_due s memory turn h =
    let each = before_each turn drive_count s h in
    rw (not_due turn s.registers.transfer each.0) (ap (λ (t : Rk11State). (t, memory)) (no_seeks turn drive_count s each.1))

-- what follows a sector after which the registers are these
abbrev pub followed : ℕ → Bool → Registers → Registers
followed turn ends r =
    if ends then ended r
    else (if r.disk_address.cylinder == 203 then failed Overrun r else record r { transfer = Some (turn + 32) })

-- A sector that moved is followed by one 32 turns later, or by none.
followed_later : (turn : ℕ) (ends : Bool) (r : Registers) → IsBefore turn (followed turn ends r).transfer
unfolding ended requested failed
followed_later turn true r = tt
followed_later turn false r =
    elim (cases_Bool (r.disk_address.cylinder == 203)) [
      | inl over ↦ rw over tt
      | inr inside ↦ let later : turn < turn + 32 = omega arith in rw inside later
    ]

-- the seek of a drive whose sector moved
moved_later : (turn : ℕ) (r : Registers) (d : Option MountedDrive) (memory : Words) → IsBefore turn (after_sector_on turn r d memory).0.transfer × (seek_due (after_sector_on turn r d memory).1 ≡ seek_due d)
unfolding after_sector seek_due ended requested failed registers_after_sector
moved_later turn r None memory = (tt, refl)
moved_later turn r (Some drive) memory =
    elim (cases_Bool (is_refused r memory)) [
      | inl refused ↦ rw refused (tt, refl)
      | inr moves ↦
          let difference : Bool = differs r.function r drive.contents memory in
          let moved : Registers = counters_advanced (record r { errors = if difference then bit_or r.errors 1 else r.errors }) in
          rw moves (followed_later turn (nat_le (words_left r) 256 || (difference && r.stop_on_soft_error)) moved, refl)
    ]

-- a drive that changes but for its seek leaves the due turns of all seeks
same_seeks : (s : Rk11State) (r : Registers) (n k : ℕ) (d : Option MountedDrive) → seek_due d ≡ seek_due (drive_of s n) → seek_due (drive_of (with_registers_and_drive s n (r, d)) k) ≡ seek_due (drive_of s k)
unfolding with_registers_and_drive with_drive drive_of
same_seeks s r n k d same =
    elim (cases_Bool (nat_lt n drive_count)) [
      | inr fails ↦ rw fails refl
      | inl holds ↦ rw holds
          (elim (cases_Bool (nat_lt k drive_count)) [
            | inr beyond ↦ rw beyond refl
            | inl there ↦ rw there
                (sym (get_or-map seek_due (set s.drives n d) k None)
                ∙ ap (λ (l : List (Option ℕ)). get_or l k (seek_due None)) (map-set_same seek_due s.drives n d None (same ∙ ap (λ (t : Bool). seek_due (if t then get_or s.drives n None else None)) holds))
                ∙ get_or-map seek_due s.drives k None)
          ])
    ]

above : (turn : ℕ) (due : Option ℕ) → IsNotAfter turn due → is_due turn due ≡ false → IsBefore turn due
unfolding is_due
above turn None h fails = tt
above turn (Some due) h fails =
    elim (cases_eq due turn) [
      | inl e ↦ absurd (both_ways (due == turn) fails (eq-eqb due turn e))
      | inr other ↦ omega (arith, h, other)
    ]

-- the due turns of the seeks, and whether the transfer's is later
record LaterTransfer (turn : ℕ) (s t : Rk11State) : Type 0 where
  transfer : IsBefore turn t.registers.transfer
  seeks : (k : ℕ) → seek_due (drive_of t k) ≡ seek_due (drive_of s k)

after_transfer : (s : Rk11State) (memory : Words) (turn : ℕ) → IsNotAfter turn s.registers.transfer → LaterTransfer turn s (disk_after_transfer turn s memory).0
unfolding disk_after_transfer with_registers_and_drive
after_transfer s memory turn h =
    elim (cases_Bool (is_due turn s.registers.transfer)) [
      | inr fails ↦ rw fails (record { transfer = above turn s.registers.transfer h fails; seeks = λ k. refl })
      | inl holds ↦
          let moved = moved_later turn s.registers (selected s) memory in
          rw holds (record {
            transfer = moved.0;
            seeks = λ k. same_seeks s (after_sector_on turn s.registers (selected s) memory).0 s.registers.disk_address.drive k (after_sector_on turn s.registers (selected s) memory).1 moved.1;
          })
    ]

-- what becomes of a drive whose seek may be due
sought : ℕ → Option MountedDrive → Option MountedDrive
sought turn None = None
sought turn (Some drive) = if is_due turn (seek_turn drive.seek) then Some (drive_after_seek drive.seek drive) else Some drive

seek_sought : (turn n : ℕ) (r : Registers) (d : Option MountedDrive) → ((after_seek_on turn n r d).0.transfer ≡ r.transfer) × ((after_seek_on turn n r d).1 ≡ sought turn d)
unfolding sought registers_after_seek requested
seek_sought turn n r None = (refl, refl)
seek_sought turn n r (Some drive) =
    elim (cases_Bool (is_due turn (seek_turn drive.seek))) [
      | inl holds ↦ rw holds (refl, refl)
      | inr fails ↦ rw fails (refl, refl)
    ]

arrival_ends : (drive : MountedDrive) → seek_turn (drive_after_seek drive.seek drive).seek ≡ None
arrival_ends drive = elim (drive.seek) as (λ seek. seek_turn (drive_after_seek seek (record drive { seek = seek })).seek ≡ None) [ None ↦ refl | Some seek ↦ refl ]

sought_later : (turn : ℕ) (d : Option MountedDrive) → IsNotAfter turn (seek_due d) → IsBefore turn (seek_due (sought turn d))
unfolding sought seek_due
sought_later turn None h = tt
sought_later turn (Some drive) h =
    elim (cases_Bool (is_due turn (seek_turn drive.seek))) [
      | inl holds ↦ rw (holds, arrival_ends drive) tt
      | inr fails ↦ rw fails (above turn (seek_turn drive.seek) h fails)
    ]

sought_none : (turn : ℕ) → sought turn None ≡ None
unfolding sought
sought_none turn = refl

with_transfer : (s : Rk11State) (n : ℕ) (parts : Registers × Option MountedDrive) → (with_registers_and_drive s n parts).registers.transfer ≡ parts.0.transfer
unfolding with_registers_and_drive
with_transfer s n parts = refl

-- the drives after the seeks of the first n of them
record AfterSeeks (turn n : ℕ) (s t : Rk11State) : Type 0 where
  transfer : t.registers.transfer ≡ s.registers.transfer
  first : (k : ℕ) → k < n → k < drive_count → drive_of t k ≡ sought turn (drive_of s k)
  rest : (k : ℕ) → n ≤ k → drive_of t k ≡ drive_of s k

pub drive_put : (s : Rk11State) (r : Registers) (n : ℕ) (d : Option MountedDrive) → n < drive_count → (drive_of s n ≡ None → d ≡ None) → drive_of (with_registers_and_drive s n (r, d)) n ≡ d
unfolding with_registers_and_drive with_drive drive_of
drive_put s r n d lt none =
    rw (lt-ltb n drive_count lt)
    (elim (cases_lt n (length s.drives)) [
      | inl there ↦ get_or-set_same s.drives n d None there
      | inr beyond ↦
          get_or_past (set s.drives n d) n None (omega (arith, beyond, length-set s.drives n d))
          ∙ sym (none (rw (lt-ltb n drive_count lt) (get_or_past s.drives n None beyond)))
    ])

pub drive_left : (s : Rk11State) (r : Registers) (n k : ℕ) (d : Option MountedDrive) → (k ≡ n → ⊥) → drive_of (with_registers_and_drive s n (r, d)) k ≡ drive_of s k
unfolding with_registers_and_drive with_drive drive_of
drive_left s r n k d other =
    elim (cases_Bool (nat_lt n drive_count)) [
      | inr fails ↦ rw fails refl
      | inl holds ↦ rw holds (ap (λ (d : Option MountedDrive). if nat_lt k drive_count then d else None) (get_or-set_other s.drives n k d None other))
    ]

after_seeks : (turn n : ℕ) (s : Rk11State) → n ≤ drive_count → AfterSeeks turn n s (disk_after_seeks turn n s)
unfolding disk_after_seeks disk_after_seek
after_seeks turn zero s le = record { transfer = refl; first = λ k lt. absurd (omega (arith, lt)); rest = λ k le. refl }
after_seeks turn (suc n) s le =
    let before = after_seeks turn n s (omega (arith, le)) in
    let t : Rk11State = disk_after_seeks turn n s in
    let act = seek_sought turn n t.registers (drive_of t n) in
    record {
      transfer = with_transfer t n (after_seek_on turn n t.registers (drive_of t n)) ∙ act.0 ∙ before.transfer;
      first = λ k lt there. elim (cases_lt k n) [
        | inl below ↦ drive_left t _ n k _ (λ e. omega (arith, below, e)) ∙ before.first k below there
        | inr at ↦
            let e : k ≡ n = omega (arith, lt, at) in
            rw e
            (drive_put t _ n _ (omega (arith, le)) (λ none. act.1 ∙ ap (sought turn) none ∙ sought_none turn)
            ∙ act.1 ∙ ap (sought turn) (before.rest n (omega arith)))
      ];
      rest = λ k more. drive_left t _ n k _ (λ e. omega (arith, more, e)) ∙ before.rest k (omega (arith, more));
    }

pub later_after_acts : (s : Rk11State) (memory : Words) (turn : ℕ) → IsNotAfter turn (disk_due s) → IsBefore turn (disk_due (disk_after_turn turn s memory).0)
unfolding disk_after_turn disk_due
later_after_acts s memory turn h =
    let each = not_after_each turn drive_count s h in
    let moved = after_transfer s memory turn each.0 in
    let t : Rk11State = (disk_after_transfer turn s memory).0 in
    let seeks = after_seeks turn drive_count t (omega arith) in
    let P : Option ℕ → Type 0 = λ due. IsBefore turn due in
    let Q : Option ℕ → Type 0 = λ due. IsNotAfter turn due in
    let R : Option MountedDrive → Type 0 = λ d. IsBefore turn (seek_due d) in
    before_all turn drive_count (disk_after_seeks turn drive_count t)
    (subst P (sym seeks.transfer) moved.transfer)
    (λ k lt. subst R (sym (seeks.first k lt lt)) (sought_later turn (drive_of t k) (subst Q (sym (moved.seeks k)) (each.1 k lt))))
