-- How the program ends: its exit status, and what it says.
use Rattle.std.specs.Prelude.{◌≡◌, ◌⊎◌, ℕ, List, [], codes}
use Rattle.std.specs.String.{string_bytes}
use Rattle.p11_lines.specs.Writers.{WriterState, Writes}
use Rattle.p11_lines.specs.Written.{AppendsFront}
use Rattle.p11_arguments.specs.declared.arguments.Unasked.{Unasked}
use Rattle.p11_arguments.specs.declared.arguments.Unasked.TheVariants as reasons
use Rattle.p11_panel.specs.declared.script.SessionFault.TheVariants.{Reading, Writing, TooLong}
use Rattle.p11_run.specs.declared.ending.Cause.{Cause}
use Rattle.p11_run.specs.declared.ending.Cause.TheVariants.{Done, Help, Usage, NotUtf8, BadSize, NoFolder, NoMemory, Session}

-- the ending of a command line that names no script
abbrev pub cause_of : Unasked → Cause
cause_of (reasons.Help text) = Help text
cause_of (reasons.Usage text) = Usage text
cause_of reasons.BadNumber = BadSize
cause_of reasons.NoMemory = NoMemory

-- 0: the end of the script, or help; 1: a fault of the session, or no folder; 2: a command line that is refused; 3: no memory
abbrev pub status_of : Cause → ℕ
status_of Done = 0
status_of (Help text) = 0
status_of (Usage text) = 2
status_of NotUtf8 = 2
status_of BadSize = 2
status_of NoFolder = 1
status_of NoMemory = 3
status_of (Session fault) = 1

abbrev pub text_of : Cause → List ℕ
text_of Done = []
text_of (Help text) = string_bytes text
text_of (Usage text) = string_bytes text
text_of NotUtf8 = codes "p11: arguments are not UTF-8\n"
text_of BadSize = codes "? 15 BadSize\n"
text_of NoFolder = codes "p11: the folder of --files isn't there\n"
text_of NoMemory = codes "p11: no memory\n"
text_of (Session Reading) = codes "p11: read fault\n"
text_of (Session Writing) = codes "p11: write fault\n"
text_of (Session TooLong) = codes "p11: script too long\n"

-- all of a text is written; or a front, not all, and the last write failed or took nothing, and no other
abbrev pub Says : WriterState → WriterState → List ℕ → Type 0
Says old new text = Writes old new text [] ⊎ AppendsFront old new text

-- An ending with this status and text, by what standard output and standard error were and are: the text is said on standard error,
-- and nothing on standard output.
abbrev pub EndsWith : Cause → ℕ → WriterState → WriterState → WriterState → WriterState → Type 0
EndsWith cause status output output' errors errors' =
    (status ≡ status_of cause) × (output' ≡ output) × Says errors errors' (text_of cause)

-- Help is said on standard output, with status 0 and nothing on standard error; help that can't be written whole is a write fault.
abbrev pub EndsBy : Cause → ℕ → WriterState → WriterState → WriterState → WriterState → Type 0
EndsBy (Help text) status output output' errors errors' =
    ((status ≡ 0) × Writes output output' (string_bytes text) [] × (errors' ≡ errors))
    ⊎ ((status ≡ status_of (Session Writing)) × AppendsFront output output' (string_bytes text)
    × Says errors errors' (text_of (Session Writing)))
EndsBy Done status output output' errors errors' = EndsWith Done status output output' errors errors'
EndsBy (Usage text) status output output' errors errors' = EndsWith (Usage text) status output output' errors errors'
EndsBy NotUtf8 status output output' errors errors' = EndsWith NotUtf8 status output output' errors errors'
EndsBy BadSize status output output' errors errors' = EndsWith BadSize status output output' errors errors'
EndsBy NoFolder status output output' errors errors' = EndsWith NoFolder status output output' errors errors'
EndsBy NoMemory status output output' errors errors' = EndsWith NoMemory status output output' errors errors'
EndsBy (Session fault) status output output' errors errors' = EndsWith (Session fault) status output output' errors errors'
