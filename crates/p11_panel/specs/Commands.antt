-- The operator's commands: what each does and answers.
use Rattle.std.specs.Prelude.{◌≡◌, ℕ, ◌%◌, ◌<◌, ◌⊎◌, length, Bool, true, false, ◌&&◌, nat_lt, ◌==◌, is_some, is_none, is_ok, IsTrue, if◌then◌else◌}
use Rattle.std.specs.Option.{option_map_or}
use Rattle.p11_lines.specs.declared.fault.Fault.TheVariants.{DriveBusy, OddAddress, BadRegister, KeysFull, NoMemory}
use Rattle.p11_lines.specs.declared.answer.Answer.{Answer}
use Rattle.p11_lines.specs.declared.answer.Answer.TheVariants.{Done, Stop, Registers, Devices, Sectors, Image, Refused}
use Rattle.p11_lines.specs.declared.answer.StopReason.TheVariants.{Memory}
use Rattle.p11_overlay.specs.Drive.{image_of}
use Rattle.p11_rk11.specs.State.{drive_of, is_busy}
use Rattle.p11_tape.specs.Reading.{reading}
use Rattle.p11_cpu.specs.State.{State}
use Rattle.p11_cpu.specs.Operator.{start_of, console_register, set_reg_of}
use Rattle.p11_cpu.specs.OperatorDevices.{mount_of, unmount_of, room_of, tick_of, set_period_of, set_switches_of}
use Rattle.p11_cpu.specs.Prepared.{needs_memory}
use Rattle.p11_cpu.specs.Turns.{after_turns}
use Rattle.p11_panel.specs.declared.command.Command.{Command}
use Rattle.p11_panel.specs.declared.command.Command.TheVariants.{Mount, Unmount, Save, Changed, Load, Examine, Deposit, Start, Key}
use Rattle.p11_panel.specs.declared.command.Command.TheVariants.{Tick, Clock, Switches, Set, Step, Continue, Flush, Regs, Device}
use Rattle.p11_panel.specs.Ranges.{examine_fault, examined, deposit_fault, deposited}
use Rattle.p11_panel.specs.Disks.{mount_fault, on_pack}
use Rattle.p11_panel.specs.Keys.{pressed}
use Rattle.p11_panel.specs.Refusals.{IsRefused, unless}
use Rattle.p11_panel.specs.Runs.{step_fault, whole_run, stopped}
use Rattle.p11_panel.specs.Shown.{registers_of, shown_devices}
use Rattle.p11_panel.specs.Tapes.{tape_loaded}

-- What a command comes to where memory is found: the state after it, and its answer. STEP isn't asked to stop where the
-- machine idles, CONTINUE is.
abbrev pub outcome : {A : Type 0} → Command A → State → State × Answer A
outcome (Mount drive image protect) s = unless (mount_fault drive image s) s (mount_of drive image protect s, Done)
outcome (Unmount drive) s =
    on_pack drive s (λ pack. if is_busy drive s.bus.disk then (s, Refused DriveBusy) else (unmount_of drive s, Done))
outcome (Save drive) s = on_pack drive s (λ pack. (s, Image (image_of pack)))
outcome (Changed drive) s = on_pack drive s (λ pack. (s, Sectors pack.changed))
outcome (Load tape) s = tape_loaded (reading tape) s
outcome (Examine address n) s = unless (examine_fault address n s) s (examined address n s)
outcome (Deposit address words) s = unless (deposit_fault address (length words) s) s (deposited address words s, Done)
outcome (Start address) s = if address % 2 == 1 then (s, Refused OddAddress) else (start_of address s, Done)
outcome (Key text) s = if nat_lt (room_of s) (length text) then (s, Refused KeysFull) else (pressed text s, Done)
outcome Tick s = (tick_of s, Done)
outcome (Clock period) s = (set_period_of period s, Done)
outcome (Switches word) s = (set_switches_of word s, Done)
outcome (Set number word) s =
    option_map_or (λ register. (set_reg_of register word s, Done)) (console_register number) (s, Refused BadRegister)
outcome (Step n) s = unless (step_fault n s) s (whole_run false n s)
outcome (Continue n) s = unless (step_fault n s) s (whole_run true n s)
outcome Flush s = (s, Done)
outcome Regs s = (s, Registers (registers_of s))
outcome Device s = (s, Devices (shown_devices s))

-- Whether a command takes memory: where nothing else refuses them, MOUNT, SAVE, CHANGED and EXAMINE of several words
-- do; LOAD of a tape does, before it asks whether memory has the addresses.
abbrev pub takes_memory : {A : Type 0} → Command A → State → Bool
takes_memory (Mount drive image protect) s = is_none (mount_fault drive image s)
takes_memory (Save drive) s = is_some (drive_of s.bus.disk drive)
takes_memory (Changed drive) s = is_some (drive_of s.bus.disk drive)
takes_memory (Load tape) s = is_ok (reading tape)
takes_memory (Examine address n) s = nat_lt 1 n && is_none (examine_fault address n s)
takes_memory _ s = false

-- the turns that an answer tells of
abbrev pub turns_in : {A : Type 0} → Answer A → ℕ
turns_in (Stop typed reason k pc) = k
turns_in _ = 0

-- What a command does to a machine. It has its outcome; or it takes memory, is refused for want of it, and changes
-- nothing; or it is a run that memory stops before a turn that needs some, after just the turns that it says.
abbrev pub CommandStep : {A : Type 0} → State → Command A → Answer A → State → Type 0
CommandStep s command answer s' =
    (outcome command s ≡ (s', answer))
    ⊎ (IsTrue (takes_memory command s) × IsRefused NoMemory s answer s')
    ⊎ ((k : ℕ) × (k < turns_in (outcome command s).1) × IsTrue (needs_memory (after_turns k s))
    × (stopped Memory k (after_turns k s) ≡ (s', answer)))
