-- The devices' own tables make the map of the I/O page.
use Rattle.std.proofs.Common.{◌≡◌, ℕ, Bool, true, false, cond, List, [], ◌∷◌, ◌++◌, map, Option, Some, refl, ap, ◌∙◌}
use Rattle.std.specs.Prelude.{nat_eq, option_map}
use Rattle.std.specs.Map.{lookup}
use Rattle.std.specs.Option.{option_or}
use Rattle.p11_kw11.specs.Calls.Addresses as clock
use Rattle.p11_dl11.specs.Calls.Addresses as line
use Rattle.p11_rk11.specs.Calls.Addresses as disk
use Rattle.p11_unibus.specs.declared.register.Register.{Register}
use Rattle.p11_unibus.specs.declared.register.Register.TheVariants.{Clock, Line, Disk, Switches}
use Rattle.p11_unibus.specs.Calls.Tables.{register_by_device}
use Rattle.p11_unibus.specs.Registers.{register_at}

-- the rows of a device as rows of the map
abbrev rows_of : {A B : Type 0} → (A → B) → List (ℕ × A) → List (ℕ × B)
rows_of f rows = map (λ row. (row.0, f row.1)) rows

-- a device is asked, and the rest where it has none: that is one list of rows
joined : {A B : Type 0} (p : ℕ → Bool) (f : A → B) (rows : List (ℕ × A)) (rest : List (ℕ × B))
    → option_or (option_map f (lookup p rows)) (lookup p rest) ≡ lookup p (rows_of f rows ++ rest)
joined p f [] rest = refl
joined p f (row ∷ rows) rest =
    elim (p row.0) as (λ t. option_or (option_map f (cond t (Some row.1) (lookup p rows))) (lookup p rest)
    ≡ cond t (Some (f row.1)) (lookup p (rows_of f rows ++ rest))) [
      | true ↦ refl
      | false ↦ joined p f rows rest
    ]

pub devices_make_the_map : (a : ℕ) → register_by_device a ≡ register_at a
unfolding register_by_device register_at clock.register_at line.register_at disk.register_at
devices_make_the_map a =
    let is : ℕ → Bool = nat_eq a in
    let switches : List (ℕ × Register) = (0o777570, Switches) ∷ [] in
    let from_line : List (ℕ × Register) = rows_of Line line.registers ++ switches in
    let from_clock : List (ℕ × Register) = rows_of Clock clock.registers ++ from_line in
    let by_disk : Option Register = option_map Disk (lookup is disk.registers) in
    let by_clock : Option Register = option_map Clock (lookup is clock.registers) in
    ap (λ (rest : Option Register). option_or by_disk (option_or by_clock rest)) (joined is Line line.registers switches)
    ∙ ap (λ (rest : Option Register). option_or by_disk rest) (joined is Clock clock.registers from_line)
    ∙ joined is Disk disk.registers from_clock
