-- The faults of the console, by number and name.
use Rattle.std.specs.Prelude.{ℕ, List, codes}
use Rattle.p11_lines.specs.declared.fault.Fault.{Fault}
use Rattle.p11_lines.specs.declared.fault.Fault.TheVariants.{NoDrive, DriveEmpty, DriveTaken, ImageTooLong}
use Rattle.p11_lines.specs.declared.fault.Fault.TheVariants.{OddAddress, NoAnswer, DriveBusy, KeysFull, BadTape}
use Rattle.p11_lines.specs.declared.fault.Fault.TheVariants.{TooMany, BadRegister, NoMemory, BadLine, StoreFault}
use Rattle.p11_lines.specs.declared.fault.Fault.TheVariants.{BadSize}

-- the number and the name of a fault
abbrev pub fault_row : Fault → ℕ × List ℕ
fault_row NoDrive = (1, codes "NoDrive")
fault_row DriveEmpty = (2, codes "DriveEmpty")
fault_row DriveTaken = (3, codes "DriveTaken")
fault_row ImageTooLong = (4, codes "ImageTooLong")
fault_row OddAddress = (5, codes "OddAddress")
fault_row NoAnswer = (6, codes "NoAnswer")
fault_row DriveBusy = (7, codes "DriveBusy")
fault_row KeysFull = (8, codes "KeysFull")
fault_row BadTape = (9, codes "BadTape")
fault_row TooMany = (10, codes "TooMany")
fault_row BadRegister = (11, codes "BadRegister")
fault_row NoMemory = (12, codes "NoMemory")
fault_row BadLine = (13, codes "BadLine")
fault_row StoreFault = (14, codes "StoreFault")
fault_row BadSize = (15, codes "BadSize")

abbrev pub number_of_fault : Fault → ℕ
number_of_fault fault = (fault_row fault).0

abbrev pub name_of_fault : Fault → List ℕ
name_of_fault fault = (fault_row fault).1
