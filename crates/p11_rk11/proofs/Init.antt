-- INIT, drive by drive: the first n drives have had it.
use Rattle.std.proofs.Common.{◌≡◌, ℕ, zero, suc, ◌<◌, ◌≤◌, true, List, [], ◌∷◌, length, map, set, get_or, Option, Some, None, refl, sym, ap, ◌∙◌, arith, inl, inr}
use Rattle.std.proofs.lemmas.Bool.{lt-ltb, cases_lt}
use Rattle.std.proofs.lemmas.List.{ext_get_or, get_or-set_same, get_or-set_other, length-set}
use Rattle.std.proofs.Math.ListN.{get_or-map, length-map}
use Rattle.std.specs.Prelude.{nat_lt}
use Rattle.p11_rk11.specs.Drives.{MountedDrive}
use Rattle.p11_rk11.specs.State.{Rk11State, drive_count, drive_of, with_drive, drive_after_init, disk_after_init}

unfoldable pub initialized : ℕ → List (Option MountedDrive) → List (Option MountedDrive)
initialized zero drives = drives
initialized (suc n) drives = set (initialized n drives) n (drive_after_init (get_or (initialized n drives) n None))

length-initialized : (n : ℕ) (drives : List (Option MountedDrive)) → length (initialized n drives) ≡ length drives
unfolding initialized
length-initialized zero drives = refl
length-initialized (suc n) drives = length-set (initialized n drives) n _ ∙ length-initialized n drives

later_drive : (n : ℕ) (drives : List (Option MountedDrive)) (i : ℕ) → n ≤ i → get_or (initialized n drives) i None ≡ get_or drives i None
unfolding initialized
later_drive zero drives i le = refl
later_drive (suc n) drives i le =
    get_or-set_other (initialized n drives) n i _ None (λ e. omega (arith, le, e)) ∙ later_drive n drives i (omega (arith, le))

earlier_drive : (n : ℕ) (drives : List (Option MountedDrive)) (i : ℕ) → i < n → n ≤ length drives → get_or (initialized n drives) i None ≡ drive_after_init (get_or drives i None)
unfolding initialized
earlier_drive zero drives i lt len = absurd (omega (arith, lt))
earlier_drive (suc n) drives i lt len =
    elim (cases_lt i n) [
      | inl below ↦
          get_or-set_other (initialized n drives) n i _ None (λ e. omega (arith, below, e))
          ∙ earlier_drive n drives i below (omega (arith, len))
      | inr at ↦
          let e : i ≡ n = omega (arith, lt, at) in
          rw e
          (get_or-set_same (initialized n drives) n _ None (omega (arith, len, length-initialized n drives))
          ∙ ap drive_after_init (later_drive n drives n (omega arith)))
    ]

-- all of them are all drives
pub all_initialized : (drives : List (Option MountedDrive)) → length drives ≡ drive_count → initialized drive_count drives ≡ map drive_after_init drives
all_initialized drives len =
    ext_get_or None (initialized drive_count drives) (map drive_after_init drives)
    (length-initialized drive_count drives ∙ sym (length-map drives drive_after_init))
    (λ i lt.
    earlier_drive drive_count drives i (omega (arith, lt, len, length-initialized drive_count drives)) (omega (arith, len))
    ∙ sym (get_or-map drive_after_init drives i None))

-- one drive more
pub one_more : (s t : Rk11State) (n : ℕ) → n < drive_count → t ≡ with_drive s n (drive_after_init (drive_of s n))
    → (t.registers ≡ s.registers) × (t.drives ≡ set s.drives n (drive_after_init (get_or s.drives n None)))
unfolding with_drive drive_of
one_more s t n lt is =
    let test : nat_lt n drive_count ≡ true = lt-ltb n drive_count lt in
    let seen : Rk11State = record s { drives = set s.drives n (drive_after_init (get_or s.drives n None)) } in
    let e : t ≡ seen = is ∙ rw test refl in
    (ap (λ (u : Rk11State). u.registers) e, ap (λ (u : Rk11State). u.drives) e)

init_again : (drives : List (Option MountedDrive)) → map drive_after_init (map drive_after_init drives) ≡ map drive_after_init drives
init_again [] = refl
init_again (None ∷ drives) = ap (λ (rest : List (Option MountedDrive)). None ∷ rest) (init_again drives)
init_again (Some drive ∷ drives) = ap (λ (rest : List (Option MountedDrive)). drive_after_init (Some drive) ∷ rest) (init_again drives)

pub init_twice : (s : Rk11State) → disk_after_init (disk_after_init s) ≡ disk_after_init s
unfolding disk_after_init
init_twice s = ap (λ (drives : List (Option MountedDrive)). record (disk_after_init s) { drives = drives }) (init_again s.drives)

pub all_drives : (n : ℕ) (before after : List (Option MountedDrive)) → n ≡ drive_count → after ≡ initialized n before → length after ≡ drive_count
    → after ≡ map drive_after_init before
all_drives n before after at is len =
    is ∙ ap (λ (k : ℕ). initialized k before) at
    ∙ all_initialized before (omega (arith, len, length-initialized n before, ap (λ (l : List (Option MountedDrive)). length l) is))
