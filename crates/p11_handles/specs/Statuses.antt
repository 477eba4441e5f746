-- The number by which C knows how a call ended.
use Rattle.std.specs.Prelude.{ℤ, pos}
use Rattle.p11_handles.specs.declared.status.Status.{Status}
use Rattle.p11_handles.specs.declared.status.Status.TheVariants.{Done, NoMemory, BadSize, BadFiles, TooSmall, TooLong, NoMachine, NoFile, TooMany}

unfoldable pub number_of_status : Status → ℤ
number_of_status Done = pos 0
number_of_status NoMemory = pos 1
number_of_status BadSize = pos 2
number_of_status BadFiles = pos 3
number_of_status TooSmall = pos 4
number_of_status TooLong = pos 5
number_of_status NoMachine = pos 6
number_of_status NoFile = pos 7
number_of_status TooMany = pos 8
