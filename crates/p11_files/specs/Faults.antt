-- What a failed call on a file said, as the reason that is shown.
use Rattle.std.specs.Prelude.{ℕ, ℤ, pos, Bool, true, false, List, [], ◌∷◌, Option, if◌then◌else◌, ◌==◌, unsigned_abs, unwrap_or, codes}
use Rattle.std.specs.declared.io.ErrorKind.{ErrorKind}
use Rattle.std.specs.declared.io.ErrorKind.TheVariants as kinds
use Rattle.p11_files.specs.declared.file_fault.FileFault.{FileFault}
use Rattle.p11_files.specs.declared.file_fault.FileFault.TheVariants.{NotThere, Denied, Protected, Folder, NotFolder, NotFile, Nameless, Outside, ReadOnly, NoRoom, Quota, TooLarge, Busy, Ring, LongName, NotUtf8, TooLong, Hardware, NoMemory, TooManyOpen, Unknown}

-- the numbers of Linux for which std has no kind, and which say something of a file
abbrev pub number_faults : List (ℕ × FileFault)
number_faults = (5, Hardware) ∷ (6, NotFile) ∷ (23, TooManyOpen) ∷ (24, TooManyOpen) ∷ []

abbrev pub fault_in : List (ℕ × FileFault) → ℕ → FileFault
fault_in [] number = Unknown
fault_in (row ∷ rows) number = if number == row.0 then row.1 else fault_in rows number

-- by the kind that std makes of a number, and by the number where that has no kind
abbrev pub fault_by : ErrorKind → Option ℤ → FileFault
fault_by kinds.NotFound number = NotThere
fault_by kinds.PermissionDenied number = Denied
fault_by kinds.ConnectionRefused number = Unknown
fault_by kinds.ConnectionReset number = Unknown
fault_by kinds.HostUnreachable number = Unknown
fault_by kinds.NetworkUnreachable number = Unknown
fault_by kinds.ConnectionAborted number = Unknown
fault_by kinds.NotConnected number = Unknown
fault_by kinds.AddrInUse number = Unknown
fault_by kinds.AddrNotAvailable number = Unknown
fault_by kinds.NetworkDown number = Unknown
fault_by kinds.BrokenPipe number = Unknown
fault_by kinds.AlreadyExists number = Unknown
fault_by kinds.WouldBlock number = Unknown
fault_by kinds.NotADirectory number = NotFolder
fault_by kinds.IsADirectory number = Folder
fault_by kinds.DirectoryNotEmpty number = Unknown
fault_by kinds.ReadOnlyFilesystem number = ReadOnly
fault_by kinds.FilesystemLoop number = Ring
fault_by kinds.StaleNetworkFileHandle number = Unknown
fault_by kinds.InvalidInput number = Unknown
fault_by kinds.InvalidData number = Unknown
fault_by kinds.TimedOut number = Unknown
fault_by kinds.WriteZero number = Unknown
fault_by kinds.StorageFull number = NoRoom
fault_by kinds.NotSeekable number = Unknown
fault_by kinds.QuotaExceeded number = Quota
fault_by kinds.FileTooLarge number = TooLarge
fault_by kinds.ResourceBusy number = Busy
fault_by kinds.ExecutableFileBusy number = Busy
fault_by kinds.Deadlock number = Unknown
fault_by kinds.CrossesDevices number = Unknown
fault_by kinds.TooManyLinks number = Unknown
fault_by kinds.InvalidFilename number = LongName
fault_by kinds.ArgumentListTooLong number = Unknown
fault_by kinds.Interrupted number = Unknown
fault_by kinds.Unsupported number = Unknown
fault_by kinds.UnexpectedEof number = Unknown
fault_by kinds.OutOfMemory number = NoMemory
fault_by kinds.InProgress number = Unknown
fault_by kinds.Other number = Unknown
fault_by kinds.Uncategorized number = fault_in number_faults (unsigned_abs (unwrap_or number (pos 0)))

-- why, in few words
abbrev pub text_of : FileFault → List ℕ
text_of NotThere = codes "no such file"
text_of Denied = codes "permission denied"
text_of Protected = codes "it is protected"
text_of Folder = codes "it is a folder"
text_of NotFolder = codes "what should be its folder is none"
text_of NotFile = codes "it is a device, a pipe or a terminal"
text_of Nameless = codes "the system has no path to it"
text_of Outside = codes "it is outside of the folder of --files"
text_of ReadOnly = codes "its file system is read-only"
text_of NoRoom = codes "no room is left on its file system"
text_of Quota = codes "the quota is used up"
text_of TooLarge = codes "the system takes no file of that size"
text_of Busy = codes "it is busy: a mount point, or a program that runs"
text_of Ring = codes "its links lead in a ring"
text_of LongName = codes "its name is too long"
text_of NotUtf8 = codes "its name is no UTF-8"
text_of TooLong = codes "it is longer than 16,773,120 bytes"
text_of Hardware = codes "its device failed"
text_of NoMemory = codes "there was no memory"
text_of TooManyOpen = codes "too many files are open"
text_of Unknown = codes "the system refused it"

-- What the program itself refuses, of which no call fails: a name that isn't one, or leads out of the folder; what is no file; a file
-- that is protected, has no path or is too long; and for want of memory.
abbrev pub is_own : FileFault → Bool
is_own Protected = true
is_own Folder = true
is_own NotFile = true
is_own Nameless = true
is_own Outside = true
is_own NotUtf8 = true
is_own TooLong = true
is_own NoMemory = true
is_own NotThere = false
is_own Denied = false
is_own NotFolder = false
is_own ReadOnly = false
is_own NoRoom = false
is_own Quota = false
is_own TooLarge = false
is_own Busy = false
is_own Ring = false
is_own LongName = false
is_own Hardware = false
is_own TooManyOpen = false
is_own Unknown = false
