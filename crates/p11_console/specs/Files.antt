-- What the host gives and takes.
use Rattle.std.specs.Prelude.{Vec, ◌≡◌, ℕ, Bool, true, false, List, Option, Some, None, Result, Ok, Err, if◌then◌else◌}
use Rattle.p11_lines.specs.declared.answer.Answer.{Answer}
use Rattle.p11_lines.specs.declared.answer.Answer.TheVariants as answers
use Rattle.p11_lines.specs.declared.fault.Fault.TheVariants.{StoreFault}
use Rattle.p11_lines.specs.declared.line.Line.{Line}
use Rattle.p11_lines.specs.declared.line.Line.TheVariants as lines
use Rattle.p11_cpu.specs.State.{State}
use Rattle.p11_panel.specs.declared.command.Command.{Command}
use Rattle.p11_panel.specs.declared.command.Command.TheVariants as commands
use Rattle.p11_panel.specs.Session.{fault_of}
use Rattle.p11_store.specs.declared.store.StoreError.{StoreError}
use Rattle.p11_dialogue.specs.Manner.{is_batch}
use Rattle.p11_dialogue.specs.Said.{Says}
use Rattle.p11_console.specs.Saved.{saved_by}
use Rattle.p11_console.specs.State.{ConsoleState}
use Rattle.p11_console.specs.Steps.{Completes}
use Rattle.p11_console.specs.Tries.{Acts, refused}
use Rattle.p11_console.specs.declared.trouble.Trouble.{Trouble}
use Rattle.p11_console.specs.declared.trouble.PutFault.{PutFault}
use Rattle.p11_console.specs.declared.trouble.PutFault.TheVariants as puts
use Rattle.p11_dialogue.specs.declared.activity.Activity.{Activity}
use Rattle.p11_dialogue.specs.declared.activity.Activity.TheVariants.{Free, Naming, Telling, Fetching, Putting, Asking, Opening}

-- the file that a line names
unfoldable pub file_name : {A : Type 0} → Line A → Option (List ℕ)
file_name (lines.Mount drive name protect) = Some name
file_name (lines.Load name) = Some name
file_name (lines.Save drive name) = Some name
file_name _ = None

-- the drive of the pack whose file a line reads or writes
unfoldable pub pack_drive : {A : Type 0} → Line A → Option ℕ
pack_drive (lines.Mount drive name protect) = Some drive
pack_drive (lines.Save drive name) = Some drive
pack_drive _ = None

abbrev pub drive_in : {A : Type 0} → Activity A → Option ℕ
drive_in (Fetching line text) = pack_drive line
drive_in (Putting line image text is_agreed) = pack_drive line
drive_in _ = None

-- a line is done, and that isn't told yet
abbrev pub is_ok_answer : {A : Type 0} → Answer A → Bool
is_ok_answer answers.Done = true
is_ok_answer _ = false

abbrev pub is_done : {A : Type 0} → Activity A → Bool
is_done (Telling answer text note) = is_ok_answer answer
is_done _ = false

-- the name of the file that is wanted, or that the bytes are for
abbrev pub wanted : {A : Type 0} → Activity A → Option (List ℕ)
wanted (Fetching line text) = file_name line
wanted (Putting line image text is_agreed) = file_name line
wanted (Opening name) = Some name
wanted _ = None

-- the bytes that a file is to have
abbrev pub image_in : {A : Type 0} → Activity A → Option (List ℕ)
image_in (Putting line image text is_agreed) = Some image
image_in _ = None

-- the command of a line on the bytes of its file
unfoldable pub file_command : {A : Type 0} → Line A → List ℕ → Option (Command A)
file_command (lines.Mount drive name protect) bytes = Some (commands.Mount drive bytes protect)
file_command (lines.Load name) bytes = Some (commands.Load bytes)
file_command _ bytes = None

-- the file that is wanted is a pack's
abbrev pub is_mount : {A : Type 0} → Line A → Bool
is_mount (lines.Mount drive name protect) = true
is_mount _ = false

abbrev pub is_pack : {A : Type 0} → Activity A → Bool
is_pack (Fetching line text) = is_mount line
is_pack _ = false

-- the lines of a file come next, where nothing is under way
abbrev pub opening : {A : Type 0} → List ℕ → Activity A → Activity A
opening name Free = Opening name
opening name activity = activity

-- a file that is there may be written over
abbrev pub may_replace : {A : Type 0} → Activity A → Bool
may_replace (Putting line image text is_agreed) = is_agreed
may_replace _ = true

-- what the host gives, as bytes
abbrev pub file_of : {A : Type 0} → Result (Vec ℕ A) Trouble → Result (List ℕ) StoreError
file_of (Ok bytes) = Ok bytes.items
file_of (Err trouble) = Err trouble.error

abbrev pub ActsOn : {A : Type 0} → Option (Command A) → List ℕ → State → Activity A → State → Type 0
ActsOn (Some command) text s activity s' = Acts command text s activity s'
ActsOn None text s activity s' = (activity ≡ refused (answers.Refused StoreFault)) × (s' ≡ s)

-- a line that waits is done on its file, or refused where there is none
unfoldable pub GivesLine : {A : Type 0} → Result (List ℕ) StoreError → Line A → List ℕ → State → Activity A → State → Type 0
GivesLine (Ok bytes) line text s activity s' = ActsOn (file_command line bytes) text s activity s'
GivesLine (Err error) line text s activity s' = (activity ≡ refused (answers.Refused (fault_of error))) × (s' ≡ s)

-- a script that is all and can't be had has no answer
abbrev pub activity_missing : {A : Type 0} → Bool → StoreError → Activity A
activity_missing is_all error = if is_all then Free else refused (answers.Refused (fault_of error))

-- the lines of a script come next, or it can't be had
abbrev pub GivesScript : {A : Type 0} → Result (List ℕ) StoreError → ConsoleState A → ConsoleState A → Type 0
GivesScript (Ok bytes) c c' = c' ≡ record c { script = bytes; activity = Free }
GivesScript (Err error) c c' = c' ≡ record c { lacks_script = true; activity = activity_missing (is_batch c.settings.manner) error }

abbrev pub Gives : {A : Type 0} → Result (List ℕ) StoreError → Activity A → ConsoleState A → ConsoleState A → Type 0
Gives file (Fetching line text) c c' =
    GivesLine file line text c.machine c'.activity c'.machine × (c' ≡ record c { machine = c'.machine; activity = c'.activity })
Gives file (Opening name) c c' = GivesScript file c c'
Gives file activity c c' = c' ≡ c

-- the file was written and the line is done; or one is there, and a person is asked; or it can't be written
abbrev pub TakesPut : {A : Type 0} → Result (Unit {0}) PutFault → Line A → List ℕ → List ℕ → ConsoleState A → ConsoleState A → Type 0
TakesPut (Ok done) line image text c c' =
    c' ≡ record c { saved = saved_by line image c.saved; activity = Telling answers.Done text tt }
TakesPut (Err puts.There) line image text c c' =
    Says c.screen c'.screen × (c' ≡ record c { screen = c'.screen; activity = Asking line image text })
TakesPut (Err (puts.Refused reason)) line image text c c' = c' ≡ record c { activity = refused (answers.Refused StoreFault) }

abbrev pub Takes : {A : Type 0} → Result (Unit {0}) PutFault → Activity A → ConsoleState A → ConsoleState A → Type 0
Takes done (Putting line image text is_agreed) c c' = TakesPut done line image text c c'
Takes done activity c c' = c' ≡ c

-- the host gives names of files, for the word at the cursor
abbrev pub Names : {A : Type 0} → Activity A → ConsoleState A → ConsoleState A → Type 0
Names Naming c c' = Completes c c'
Names activity c c' = c' ≡ c
