-- A run of turns, as the operator makes it.
use Rattle.std.specs.Prelude.{ℕ, ◌+◌, ◌^◌, Bool, ◌&&◌, ◌||◌, nat_lt, ◌==◌, find, Option, None, Some, if◌then◌else◌}
use Rattle.std.specs.List.{range_with_len}
use Rattle.std.specs.Option.{option_map_or}
use Rattle.p11_lines.specs.declared.fault.Fault.{Fault}
use Rattle.p11_lines.specs.declared.fault.Fault.TheVariants.{TooMany}
use Rattle.p11_lines.specs.declared.answer.Answer.{Answer}
use Rattle.p11_lines.specs.declared.answer.Answer.TheVariants.{Stop}
use Rattle.p11_lines.specs.declared.answer.StopReason.{StopReason}
use Rattle.p11_lines.specs.declared.answer.StopReason.TheVariants.{Halt, Turns, Idle}
use Rattle.p11_cpu.specs.State.{State}
use Rattle.p11_cpu.specs.OperatorDevices.{is_idle, take_typed_of}
use Rattle.p11_cpu.specs.Turns.{after_turns}

-- STEP and CONTINUE: 1 to 100,000,000 turns, after which the count of turns is 2^62 at most
unfoldable pub step_fault : ℕ → State → Option Fault
step_fault n s = if n == 0 || nat_lt 100000000 n || nat_lt (2 ^ 62) (s.turns + n) then Some TooMany else None

-- whether the last of so many turns halted
unfoldable pub last_halted : ℕ → State → Bool
last_halted k s = nat_lt 0 k && (after_turns k s).processor.halted

-- whether so many turns end a run before all are made: the last of them halted, or the machine idles, if that is asked
unfoldable pub ends_after : Bool → State → ℕ → Bool
ends_after until_idle s k = last_halted k s || (until_idle && is_idle (after_turns k s))

-- how many turns a run of n makes: the first number that ends it, or n
unfoldable pub turns_made : Bool → ℕ → State → ℕ
turns_made until_idle n s = option_map_or (λ k. k) (find (ends_after until_idle s) (range_with_len 0 n)) n

-- why a run of n turns stops after k of them
unfoldable pub reason_of : ℕ → ℕ → State → StopReason
reason_of n k s = if last_halted k s then Halt else (if k == n then Turns else Idle)

-- where a run stops, it takes the characters that were typed in it, and answers them, the reason, its turns and PC
abbrev pub stopped : {A : Type 0} → StopReason → ℕ → State → State × Answer A
stopped reason k last = (take_typed_of last, Stop last.bus.typed reason k last.processor.registers.pc)

-- a run of n turns that finds memory for each
unfoldable pub whole_run : {A : Type 0} → Bool → ℕ → State → State × Answer A
whole_run until_idle n s =
    let k = turns_made until_idle n s in
    stopped (reason_of n k s) k (after_turns k s)
