-- The functions of RKCS 3:1, and which of them do what, by their numbers.
use Rattle.std.specs.Prelude.{ℕ, Bool, ◌==◌, ◌&&◌, nat_le, [], ◌∷◌, slice_index_or}
use Rattle.p11_rk11.specs.declared.function.Function.{Function}
use Rattle.p11_rk11.specs.declared.function.Function.TheVariants.{ControlReset, Write, Read, WriteCheck, Seek, ReadCheck, DriveReset, WriteLock}

abbrev pub function_number : Function → ℕ
function_number ControlReset = 0
function_number Write = 1
function_number Read = 2
function_number WriteCheck = 3
function_number Seek = 4
function_number ReadCheck = 5
function_number DriveReset = 6
function_number WriteLock = 7

-- the function with a number from 0 to 7
unfoldable pub function_of : ℕ → Function
function_of number =
    slice_index_or (ControlReset ∷ Write ∷ Read ∷ WriteCheck ∷ Seek ∷ ReadCheck ∷ DriveReset ∷ []) number WriteLock

-- functions 1 to 5 have their sector and cylinder judged at GO
unfoldable pub uses_place : Function → Bool
uses_place f = nat_le 1 (function_number f) && nat_le (function_number f) 5

-- functions 1 to 3 move words of memory; a read check moves sectors alone
unfoldable pub uses_memory : Function → Bool
uses_memory f = nat_le 1 (function_number f) && nat_le (function_number f) 3

unfoldable pub is_write : Function → Bool
is_write f = function_number f == 1

unfoldable pub is_read : Function → Bool
is_read f = function_number f == 2
