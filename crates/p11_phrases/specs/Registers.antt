-- The registers: their names, and their addresses on DEC's console.
use Rattle.std.specs.Prelude.{ℕ, ◌-◌, Bool, ◌&&◌, ◌||◌, nat_le, nat_eq, List, [], ◌∷◌, Option, Some, None, if◌then◌else◌, codes}
use Rattle.std.specs.Str.{bytes_eq}
use Rattle.std.specs.Map.{lookup}

abbrev pub other_names : List (List ℕ × ℕ)
other_names =
    (codes "sp", 6) ∷ (codes "pc", 7) ∷ (codes "ps", 0o11) ∷ []

-- the names, with the numbers that `set` has for them (octal 11 is the status word)
abbrev pub names : List (List ℕ × ℕ)
names =
    (codes "r0", 0) ∷ (codes "r1", 1) ∷ (codes "r2", 2) ∷ (codes "r3", 3) ∷ (codes "r4", 4) ∷ (codes "r5", 5)
    ∷ (codes "r6", 6) ∷ (codes "r7", 7) ∷ other_names

abbrev pub register_named : List ℕ → Option ℕ
register_named word = lookup (bytes_eq word) names

-- the addresses of the registers: 777700 is R0, 777706 the kernel's SP, 777707 PC, 777716 the user's SP
abbrev pub is_register_address : ℕ → Bool
is_register_address address = nat_le 0o777700 address && nat_le address 0o777717

-- the number that `set` has for the register at such an address, if there is one
abbrev pub register_at : ℕ → Option ℕ
register_at address =
    if nat_le address 0o777707 then Some (address - 0o777700) else (
    if nat_eq address 0o777716 then Some 0o10 else None)

-- the registers from one to another are there: one alone, or those from R0 to PC in their order
abbrev pub are_registers : ℕ → ℕ → Bool
are_registers first last = nat_eq first last || (nat_le first last && nat_le last 7)
