-- The fields of the processor status word as numbers.
use Rattle.std.specs.Prelude.{ℕ, [], ◌∷◌, slice_index_or, bit_or}
use Rattle.p11_psw.specs.declared.mode.Mode.{Mode}
use Rattle.p11_psw.specs.declared.mode.Mode.TheVariants.{Kernel, Mode01, Mode10, User}
use Rattle.p11_psw.specs.declared.priority.Priority.{Priority}
use Rattle.p11_psw.specs.declared.priority.Priority.TheVariants.{Level0, Level1, Level2, Level3, Level4, Level5, Level6, Level7}

-- a processor mode is two bits: 00 kernel, 11 user; 01 and 10 are unused
abbrev pub mode_number : Mode → ℕ
mode_number Kernel = 0
mode_number Mode01 = 1
mode_number Mode10 = 2
mode_number User = 3

-- the mode that two bits say
abbrev pub mode_at : ℕ → Mode
mode_at n = slice_index_or (Kernel ∷ Mode01 ∷ Mode10 ∷ []) n User

-- the mode whose two bits are each set where the bit of one mode or of the other is
abbrev pub joined_mode : Mode → Mode → Mode
joined_mode a b = mode_at (bit_or (mode_number a) (mode_number b))

-- the processor's priority is a level from 0 to 7
abbrev pub priority_number : Priority → ℕ
priority_number Level0 = 0
priority_number Level1 = 1
priority_number Level2 = 2
priority_number Level3 = 3
priority_number Level4 = 4
priority_number Level5 = 5
priority_number Level6 = 6
priority_number Level7 = 7

-- the priority that three bits say
abbrev pub priority_at : ℕ → Priority
priority_at n = slice_index_or (Level0 ∷ Level1 ∷ Level2 ∷ Level3 ∷ Level4 ∷ Level5 ∷ Level6 ∷ []) n Level7
