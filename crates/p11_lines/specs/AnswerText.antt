-- The text of each answer. LF, which is 10, ends each line of it.
use Rattle.std.specs.Prelude.{ℕ, ◌+◌, ◌/◌, ◌%◌, Bool, true, false, Option, Some, None, List, [], ◌∷◌, ◌++◌, length}
use Rattle.std.specs.Prelude.{codes}
use Rattle.std.specs.List.{flat_map}
use Rattle.std.specs.Fmt.{decimal}
use Rattle.p11_lines.specs.declared.answer.Answer.{Answer}
use Rattle.p11_lines.specs.declared.answer.Answer.TheVariants as answer
use Rattle.p11_lines.specs.declared.answer.Devices.{Devices}
use Rattle.p11_lines.specs.declared.answer.ManagementRegisters.{ManagementRegisters}
use Rattle.p11_lines.specs.declared.answer.Mark.{Mark}
use Rattle.p11_lines.specs.declared.answer.Mark.TheVariants.{Ready, Waiting, Halted}
use Rattle.p11_lines.specs.declared.answer.Registers.{Registers}
use Rattle.p11_lines.specs.declared.answer.StopReason.{StopReason}
use Rattle.p11_lines.specs.declared.answer.StopReason.TheVariants.{Halt, Turns, Idle, Memory}
use Rattle.p11_lines.specs.declared.fault.Fault.{Fault}
use Rattle.p11_unibus.specs.declared.devices.BusDevices.{BusDevices}
use Rattle.p11_unibus.specs.declared.devices.DiskRegisters.{DiskRegisters}
use Rattle.p11_unibus.specs.declared.devices.DriveShown.{DriveShown}
use Rattle.p11_lines.specs.Escapes.{escaped}
use Rattle.p11_lines.specs.Grammar.{access_text}
use Rattle.p11_lines.specs.FaultTable.{number_of_fault, name_of_fault}

-- six octal digits: the low 18 bits of a number, the highest digit first
unfoldable pub six_octals : ℕ → List ℕ
six_octals number =
    (48 + number / 32768 % 8) ∷ (48 + number / 4096 % 8) ∷ (48 + number / 512 % 8)
    ∷ (48 + number / 64 % 8) ∷ (48 + number / 8 % 8) ∷ (48 + number % 8) ∷ []

-- `EXAM o o`: the address, and the word there
abbrev pub exam_text : ℕ → ℕ → List ℕ
exam_text address word = codes "EXAM " ++ six_octals address ++ codes " " ++ six_octals word ++ codes "\n"

-- a line for each word, at an address and the even addresses after it
unfoldable pub exam_texts : ℕ → List ℕ → List ℕ
exam_texts address [] = []
exam_texts address (word ∷ words) = exam_text address word ++ exam_texts (address + 2) words

abbrev pub reason_text : StopReason → List ℕ
reason_text Halt = codes "halt"
reason_text Turns = codes "turns"
reason_text Idle = codes "idle"
reason_text Memory = codes "memory"

-- `TTY t`: the bytes that were typed, if there are any
unfoldable pub typed_text : List ℕ → List ℕ
typed_text [] = []
typed_text (byte ∷ bytes) = codes "TTY " ++ (escaped (byte ∷ bytes) ++ codes "\n")

-- `STOP r d o`: why, after how many turns, and where the program counter is
abbrev pub stop_text : StopReason → ℕ → ℕ → List ℕ
stop_text reason turns pc =
    codes "STOP " ++ reason_text reason ++ codes " " ++ decimal turns ++ codes " " ++ six_octals pc ++ codes "\n"

abbrev pub mark_text : Mark → List ℕ
mark_text Ready = codes "ready"
mark_text Waiting = codes "waiting"
mark_text Halted = codes "halted"

-- ` o` for each word
abbrev pub spaced_text : List ℕ → List ℕ
spaced_text words = flat_map (λ word. codes " " ++ six_octals word) words

-- `REGS o o o o o o`, R0 to R5
abbrev pub general_text : Registers → List ℕ
general_text r = codes "REGS" ++ spaced_text r.general ++ codes "\n"

-- `SP o o PC o PS o`: the stack pointers of kernel and user mode, the program counter and the status word
abbrev pub pointers_text : Registers → List ℕ
pointers_text r =
    codes "SP " ++ six_octals r.kernel_sp ++ codes " " ++ six_octals r.user_sp
    ++ codes " PC " ++ six_octals r.pc ++ codes " PS " ++ six_octals r.status ++ codes "\n"

-- `TURN d s`: the turns since the machine was made, and what the processor does
abbrev pub turn_text : Registers → List ℕ
turn_text r = codes "TURN " ++ decimal r.turns ++ codes " " ++ mark_text r.mark ++ codes "\n"

abbrev pub registers_text : Registers → List ℕ
registers_text r = general_text r ++ pointers_text r ++ turn_text r

-- a due turn, or `-` where there is none
abbrev pub due_text : Option ℕ → List ℕ
due_text None = codes "-"
due_text (Some turn) = decimal turn

-- `KW11 o every d due d`: the line clock's status register, its period and its due turn
unfoldable pub clock_text : BusDevices → List ℕ
clock_text d =
    codes "KW11 " ++ six_octals d.clock ++ codes " every " ++ decimal d.clock_period
    ++ codes " due " ++ due_text d.clock_due ++ codes "\n"

-- `DL11 o o o`: RCSR, RBUF and XCSR
unfoldable pub line_words_text : BusDevices → List ℕ
line_words_text d =
    codes "DL11 " ++ six_octals d.receiver_status ++ codes " " ++ six_octals d.receiver_buffer
    ++ codes " " ++ six_octals d.transmitter_status

-- ` keys d rx d tx d` after it: the keys that wait, and both due turns
unfoldable pub line_waits_text : BusDevices → List ℕ
line_waits_text d =
    codes " keys " ++ decimal d.keys ++ codes " rx " ++ due_text d.receiver_due
    ++ codes " tx " ++ due_text d.transmitter_due ++ codes "\n"

-- ` due d`: the due turn of the transfer
unfoldable pub disk_due_text : Option ℕ → List ℕ
disk_due_text due = codes " due " ++ due_text due ++ codes "\n"

-- `RK11 o o o o o o due d`: RKDS, RKER, RKCS, RKWC, RKBA and RKDA, and the due turn
abbrev pub disk_text : DiskRegisters → List ℕ
disk_text d =
    codes "RK11"
    ++ spaced_text (d.drive_status ∷ d.error ∷ d.control_status ∷ d.word_count ∷ d.bus_address ∷ d.disk_address ∷ [])
    ++ disk_due_text d.transfer_due

-- ` rw cylinder d changed d due d`, or with `ro`: a pack's access, where the heads are, how many of its sectors were
-- written, and the due turn of its seek
unfoldable pub pack_text : DriveShown → List ℕ
pack_text d =
    codes " " ++ access_text d.protected ++ codes " cylinder " ++ decimal d.cylinder ++ codes " changed "
    ++ decimal d.changed ++ codes " due " ++ due_text d.due ++ codes "\n"

-- `DRIVE d` and what the drive has, or that it is empty
unfoldable pub drive_text : ℕ → Option DriveShown → List ℕ
drive_text number None = codes "DRIVE " ++ decimal number ++ codes " empty\n"
drive_text number (Some drive) = codes "DRIVE " ++ decimal number ++ pack_text drive

-- a line for each drive, from a number on
unfoldable pub drives_text : ℕ → List (Option DriveShown) → List ℕ
drives_text number [] = []
drives_text number (drive ∷ drives) = drive_text number drive ++ drives_text (number + 1) drives

-- `MMU o o`: SR0 and SR2, the status registers of memory management
unfoldable pub management_text : ManagementRegisters → List ℕ
management_text m = codes "MMU " ++ six_octals m.status_0 ++ codes " " ++ six_octals m.status_2 ++ codes "\n"

abbrev pub request_text : Bool → List ℕ
request_text false = codes "0"
request_text true = codes "1"

-- `REQ d d d d`: who requests an interrupt, the clock, the disk, the receiver and the transmitter
unfoldable pub requests_text : BusDevices → List ℕ
requests_text d =
    codes "REQ " ++ request_text d.clock_request ++ codes " " ++ request_text d.disk_request
    ++ codes " " ++ request_text d.receiver_request ++ codes " " ++ request_text d.transmitter_request ++ codes "\n"

abbrev pub devices_text : Devices → List ℕ
devices_text d =
    clock_text d.bus ++ (line_words_text d.bus ++ line_waits_text d.bus) ++ disk_text d.bus.disk
    ++ drives_text 0 d.bus.drives ++ management_text d.management ++ requests_text d.bus

-- ` d` for each number
abbrev pub numbers_text : List ℕ → List ℕ
numbers_text numbers = flat_map (λ number. codes " " ++ decimal number) numbers

-- `CHANGED d` and d numbers of sectors
abbrev pub sectors_text : List ℕ → List ℕ
sectors_text sectors = codes "CHANGED " ++ decimal (length sectors) ++ (numbers_text sectors ++ codes "\n")

-- `TAPE d o`: how many bytes of data a tape placed, and its start address; `TAPE d none` where it gives no start
unfoldable pub tape_text : ℕ → Option ℕ → List ℕ
tape_text bytes None = codes "TAPE " ++ decimal bytes ++ codes " none\n"
tape_text bytes (Some start) = codes "TAPE " ++ decimal bytes ++ codes " " ++ six_octals start ++ codes "\n"

-- `? d name`: the number and the name of the fault
abbrev pub fault_text : Fault → List ℕ
fault_text fault = codes "? " ++ decimal (number_of_fault fault) ++ codes " " ++ name_of_fault fault ++ codes "\n"

unfoldable pub text_of : {A : Type 0} → Answer A → List ℕ
text_of answer.Done = codes "OK\n"
text_of (answer.Word address word) = exam_text address word
text_of (answer.Words address words) = exam_texts address words
text_of (answer.Stop typed reason turns pc) = typed_text typed ++ stop_text reason turns pc
text_of (answer.Registers r) = registers_text r
text_of (answer.Devices d) = devices_text d
text_of (answer.Sectors sectors) = sectors_text sectors
text_of (answer.Image bytes) = codes "OK\n"
text_of (answer.Tape bytes start) = tape_text bytes start
text_of (answer.Refused fault) = fault_text fault
