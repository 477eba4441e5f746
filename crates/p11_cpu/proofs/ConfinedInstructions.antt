-- Every instruction of a user program keeps to what such a program may change, as long as it meets no trap.
use Rattle.std.proofs.Common.{◌≡◌, ◌∙◌, ℕ, true, refl, ◌*◌, false, cond, sym, subst}
use Rattle.p11_alu.specs.declared.codes.Codes.{Codes}
use Rattle.p11_alu.specs.declared.pair.Pair.{Pair}
use Rattle.p11_alu.specs.declared.quotient.Quotient.{Quotient}
use Rattle.p11_decode.specs.declared.op.Condition.{Condition}
use Rattle.p11_decode.specs.declared.operand.Register.TheVariants.{R0, R1, R2, R3, R4, R5, Sp, Pc}
use Rattle.p11_psw.specs.declared.mode.Mode.{Mode}
use Rattle.p11_psw.specs.declared.mode.Mode.TheVariants.{Kernel, Mode01, Mode10, User}
use Rattle.p11_psw.specs.declared.zones.Zone.{Zone}
use Rattle.p11_psw.specs.declared.zones.Zone.TheVariants.{Clear, Yellow, Red}
use Rattle.p11_cpu.specs.declared.registers.Registers.{Registers}
use Rattle.p11_cpu.specs.ExtendedInstructions.{quotient_stored}
use Rattle.p11_cpu.specs.ProcessorControl.{resumed, waiting, halt_instruction, halted, initialized, is_kernel, named_codes_of, reset_in_kernel, trap_vector}
use Rattle.p11_cpu.specs.ProgramControl.{branched, branch_address, counted_back, is_taken}
use Rattle.p11_cpu.specs.Registers.{check_stack_limit, codes_of, set_codes_for, odd_of, register_of, set_codes, set_codes_of, set_pair_of, set_register_in, set_register_of, step_down, step_up, with_register, with_stack_pointer, zone_in, get, pair_of_registers, set}
use Rattle.p11_cpu.specs.State.{HardwareState, Processor}
use Rattle.p11_cpu.specs.Words.{minus, plus, sign_extended, width_of}
use Rattle.p11_cpu.proofs.Confined.{IfGives, Kept, SameProcessor, Within, either_within, change_kept, either_kept, pure_kept, gets_kept, then_kept}
use Rattle.p11_alu.specs.CountedShifts.{ash_of, ashc_of}
use Rattle.p11_alu.specs.Numbers.{val}
use Rattle.p11_alu.specs.Products.{div_of, mul_of}
use Rattle.p11_alu.specs.Results.{logic_codes}
use Rattle.p11_decode.specs.declared.op.Op.{Op}
use Rattle.p11_decode.specs.declared.op.Op.TheVariants as ops
use Rattle.p11_decode.specs.declared.operand.Mode as modes
use Rattle.p11_decode.specs.declared.operand.Mode.TheVariants.{Register, RegisterDeferred, AutoIncrement, AutoIncrementDeferred, AutoDecrement, AutoDecrementDeferred, Index, IndexDeferred}
use Rattle.p11_decode.specs.declared.operand.Operand.{Operand}
use Rattle.p11_decode.specs.declared.operand.Register as registers
use Rattle.p11_decode.specs.declared.operand.Size.{Size}
use Rattle.p11_decode.specs.declared.operand.Size.TheVariants.{Word}
use Rattle.p11_psw.specs.Sources.{status_from_return}
use Rattle.p11_psw.specs.declared.vector.Vector.{Vector}
use Rattle.p11_psw.specs.declared.vector.Vector.TheVariants.{BusError, ReservedInstruction}
use Rattle.p11_cpu.specs.declared.operand.Place.{Place}
use Rattle.p11_cpu.specs.declared.operand.Place.TheVariants as places
use Rattle.p11_cpu.specs.DoubleOperand.{compare_of, modify_of}
use Rattle.p11_cpu.specs.Instructions.{execute_of}
use Rattle.p11_cpu.specs.Operands.{address_in, indexed, is_mode_0, operands_of, place_in, place_of, pop_of, push_register_of, read_place_of, step_of, stored_in, target_of, value_of, write_moved_of, write_place_of}
use Rattle.p11_cpu.specs.PreviousSpace.{read_previous_of, write_previous_of}
use Rattle.p11_cpu.specs.SingleOperand.{bitwise, single_of, store_only_of}
use Rattle.p11_cpu.specs.Step.{Step, change, fail}
use Rattle.p11_cpu.proofs.ConfinedReferences.{read_kept, read_previous_kept, write_kept, write_previous_kept}

-- REGISTERS

stack_pointer_kept : (mode : Mode) (value : ℕ) (file : Registers) → mode ≡ User → (with_stack_pointer mode value file).kernel_sp ≡ file.kernel_sp
stack_pointer_kept Kernel value file e = cc e
stack_pointer_kept Mode01 value file e = refl
stack_pointer_kept Mode10 value file e = refl
stack_pointer_kept User value file e = refl

-- no register of user mode is the kernel's stack pointer
kernel_sp_kept : (mode : Mode) (r : registers.Register) (value : ℕ) (file : Registers) → mode ≡ User → (with_register mode r value file).kernel_sp ≡ file.kernel_sp
unfolding with_register
kernel_sp_kept mode R0 value file e = refl
kernel_sp_kept mode R1 value file e = refl
kernel_sp_kept mode R2 value file e = refl
kernel_sp_kept mode R3 value file e = refl
kernel_sp_kept mode R4 value file e = refl
kernel_sp_kept mode R5 value file e = refl
kernel_sp_kept mode Sp value file e = stack_pointer_kept mode value file e
kernel_sp_kept mode Pc value file e = refl

-- a processor with the same kernel's stack pointer, stack limit, mark, modes and priority
with_processor : (a h : HardwareState) (p : Processor) → p.registers.kernel_sp ≡ h.processor.registers.kernel_sp → p.stack_limit ≡ h.processor.stack_limit → p.halted ≡ h.processor.halted → p.status.current ≡ h.processor.status.current → p.status.previous ≡ h.processor.status.previous → p.status.priority ≡ h.processor.status.priority → Within a h → Within a (record h { processor = p })
with_processor a h p sp limit mark current previous priority w =
    let same : SameProcessor a.processor p = record {
      kernel_sp = sp ∙ w.processor.kernel_sp;
      stack_limit = limit ∙ w.processor.stack_limit;
      halted = mark ∙ w.processor.halted;
      current = current ∙ w.processor.current;
      previous = previous ∙ w.processor.previous;
      priority = priority ∙ w.processor.priority;
    } in
    record { laws = w.laws; confines = w.confines; processor = same; management = w.management; bus = w.bus }

set_within : (r : registers.Register) (value : ℕ) (a h : HardwareState) → Within a h → Within a (set_register_of r value h)
unfolding set_register_of
set_within r value a h w =
    with_processor a h _ (kernel_sp_kept h.processor.status.current r value h.processor.registers w.processor.current) refl refl refl refl refl w

set_previous_within : (r : registers.Register) (value : ℕ) (a h : HardwareState) → Within a h → Within a (set_register_in h.processor.status.previous r value h)
set_previous_within r value a h w =
    with_processor a h _ (kernel_sp_kept h.processor.status.previous r value h.processor.registers w.processor.previous) refl refl refl refl refl w

pair_within : (r : registers.Register) (pair : Pair) (a h : HardwareState) → Within a h → Within a (set_pair_of r pair h)
unfolding set_pair_of
pair_within r pair a h w =
    set_within (odd_of r) pair.low a (set_register_of r pair.high h) (set_within r pair.high a h w)

quotient_within : (r : registers.Register) (q : Quotient) (a h : HardwareState) → Within a h → Within a (quotient_stored r q h)
unfolding quotient_stored
quotient_within r q a h w = either_within q.fits a _ _ (pair_within r _ a h w) w

branched_within : (condition : Condition) (offset : ℕ) (a h : HardwareState) → Within a h → Within a (branched condition offset h)
unfolding branched
branched_within condition offset a h w =
    either_within (is_taken condition (codes_of h)) a _ _ (set_within Pc (branch_address offset (register_of Pc h)) a h w) w

counted_within : (r : registers.Register) (count : ℕ) (a h : HardwareState) → Within a h → Within a (counted_back r count h)
unfolding counted_back
counted_within r count a h w = either_within _ a _ _ w (set_within Pc _ a h w)

-- STEPS OF A REGISTER

pub step_up_kept : (r : registers.Register) (n : ℕ) → Kept (step_up r n)
unfolding step_up
step_up_kept r n = record { keeps = λ a turn h w. set_within r (plus (register_of r h) n) a h w }

yellow_within : (a h : HardwareState) → Within a h → Within a (record h { yellow_zone = true })
yellow_within a h w =
    record { laws = w.laws; confines = w.confines; processor = w.processor; management = w.management; bus = w.bus }

checked : (zone : Zone) (address : ℕ) (a h : HardwareState) → Within a h → IfGives (Within a) (check_stack_limit zone address h)
checked Clear address a h w = w
checked Yellow address a h w = yellow_within a h w
checked Red address a h w = tt

step_down_kept : (r : registers.Register) (n : ℕ) → Kept (step_down r n)
unfolding step_down
step_down_kept r n =
    record {
      keeps = λ a turn h w.
          let address = minus (register_of r h) n in
          checked (zone_in h.processor.status.current r h.processor.stack_limit address) address a _ (set_within r address a h w);
    }

-- CODES AND STATUS

codes_within : (codes : Codes) (a h : HardwareState) → Within a h → Within a (set_codes_of codes h)
unfolding set_codes_of
codes_within codes a h w = with_processor a h _ refl refl refl refl refl refl w

set_codes_kept : (f : Codes → Codes) → Kept (set_codes f)
set_codes_kept f = record { keeps = λ a turn h w. codes_within (f (codes_of h)) a h w }

set_codes_for_kept : {A : Type 0} (f : Codes → A × Codes) → Kept (set_codes_for f)
set_codes_for_kept f = record { keeps = λ a turn h w. codes_within (f (codes_of h)).1 a h w }

-- RTI and RTT in user mode: the modes and the priority stay
returned_within : (pc word : ℕ) (a h : HardwareState) → Within a h → Within a (resumed pc (status_from_return h.processor.status word) h)
unfolding resumed
returned_within pc word a h w =
    let previous = w.laws.previous h.processor.status word w.processor.current w.processor.previous in
    with_processor a h _ refl refl refl (w.laws.current _ word w.processor.current ∙ sym w.processor.current)
    (previous ∙ sym w.processor.previous) (w.laws.priority _ word w.processor.current) w

-- the wait for an interrupt
waiting_within : (a h : HardwareState) → Within a h → Within a (waiting h)
unfolding waiting
waiting_within a h w = with_processor a h _ refl refl refl refl refl refl w

-- OPERANDS

set_kept : (r : registers.Register) (value : ℕ) → Kept (set r value)
set_kept r value = change_kept (set_register_of r value) (set_within r value)

get_kept : (r : registers.Register) → Kept (get r)
get_kept r = gets_kept (register_of r)

fail_kept : {A : Type 0} (vector : Vector) → Kept (fail {A = A} vector)
fail_kept vector = record { keeps = λ a turn h w. tt }

indexed_kept : (r : registers.Register) → Kept (indexed r)
unfolding indexed
indexed_kept r =
    then_kept (step_up_kept Pc 2) (λ pc. then_kept (read_kept Word pc) (λ index. then_kept (gets_kept (register_of r)) (λ base. pure_kept (plus index base))))

place_in_kept : (mode : modes.Mode) (size : Size) (r : registers.Register) → Kept (place_in mode size r)
unfolding place_in
place_in_kept Register size r = pure_kept (places.Register r)
place_in_kept RegisterDeferred size r = gets_kept (λ h. places.Memory (register_of r h))
place_in_kept AutoIncrement size r = then_kept (step_up_kept r (step_of size r)) (λ a. pure_kept (places.Memory a))
place_in_kept AutoIncrementDeferred size r =
    then_kept (then_kept (step_up_kept r 2) (read_kept Word)) (λ a. pure_kept (places.Memory a))
place_in_kept AutoDecrement size r = then_kept (step_down_kept r (step_of size r)) (λ a. pure_kept (places.Memory a))
place_in_kept AutoDecrementDeferred size r =
    then_kept (then_kept (step_down_kept r 2) (read_kept Word)) (λ a. pure_kept (places.Memory a))
place_in_kept Index size r = then_kept (indexed_kept r) (λ a. pure_kept (places.Memory a))
place_in_kept IndexDeferred size r =
    then_kept (then_kept (indexed_kept r) (read_kept Word)) (λ a. pure_kept (places.Memory a))

place_kept : (size : Size) (o : Operand) → Kept (place_of size o)
place_kept size o = place_in_kept o.mode size o.register

read_place_kept : (size : Size) (place : Place) → Kept (read_place_of size place)
unfolding read_place_of
read_place_kept size (places.Register r) = gets_kept (λ h. val (width_of size) (register_of r h))
read_place_kept size (places.Memory a) = read_kept size a

write_place_kept : (size : Size) (place : Place) (value : ℕ) → Kept (write_place_of size place value)
unfolding write_place_of
write_place_kept size (places.Register r) value =
    change_kept (λ h. set_register_of r (stored_in size value (register_of r h)) h) (λ a h w. set_within r _ a h w)
write_place_kept size (places.Memory a) value = write_kept size a value

write_moved_kept : (size : Size) (place : Place) (value : ℕ) → Kept (write_moved_of size place value)
unfolding write_moved_of
write_moved_kept size (places.Register r) value =
    change_kept (set_register_of r (sign_extended size value)) (set_within r (sign_extended size value))
write_moved_kept size (places.Memory a) value = write_kept size a value

value_kept : (size : Size) (o : Operand) → Kept (value_of size o)
unfolding value_of
value_kept size o = then_kept (place_kept size o) (read_place_kept size)

operands_kept : (size : Size) (source destination : Operand) → Kept (operands_of size source destination)
unfolding operands_of
operands_kept size source destination =
    either_kept (is_mode_0 source.mode) _ _
    (then_kept (place_kept size destination) (λ p. then_kept (value_kept size source) (λ s. pure_kept (record { source = s; place = p }))))
    (then_kept (value_kept size source) (λ s. then_kept (place_kept size destination) (λ p. pure_kept (record { source = s; place = p }))))

address_kept : (place : Place) → Kept (address_in place)
address_kept (places.Register r) = fail_kept BusError
address_kept (places.Memory a) = pure_kept a

target_kept : (o : Operand) → Kept (target_of o)
unfolding target_of
target_kept o = then_kept (place_kept Word o) address_kept

push_kept : (r : registers.Register) → Kept (push_register_of r)
unfolding push_register_of
push_kept r = then_kept (step_down_kept Sp 2) (λ top. then_kept (get_kept r) (λ word. write_kept Word top word))

pop_kept : Kept pop_of
unfolding pop_of
pop_kept = then_kept (step_up_kept Sp 2) (read_kept Word)

-- PROCESSOR CONTROL

-- HALT is a reserved instruction in user mode
halt_kept : Kept halt_instruction
halt_kept =
    record {
      keeps = λ a turn h w.
          subst (λ (mode : Mode). IfGives (Within a) ((if_kernel mode) turn h)) (sym w.processor.current) tt;
    }
  where
    if_kernel : Mode → Step (Unit {0})
    if_kernel mode = cond (is_kernel mode) (change halted) (fail ReservedInstruction)

-- and RESET does nothing
reset_kept : Kept (change reset_in_kernel)
unfolding reset_in_kernel
reset_kept =
    record {
      keeps = λ a turn h w.
          subst (λ (mode : Mode). Within a (cond (is_kernel mode) (initialized h) h)) (sym w.processor.current) w;
    }

-- PREVIOUS SPACE

read_previous_place_kept : (place : Place) → Kept (read_previous_of place)
unfolding read_previous_of
read_previous_place_kept (places.Register r) = record { keeps = λ a turn h w. w }
read_previous_place_kept (places.Memory va) = record { keeps = λ a turn h w. read_previous_kept va turn a h w }

write_previous_place_kept : (place : Place) (word : ℕ) → Kept (write_previous_of place word)
unfolding write_previous_of
write_previous_place_kept (places.Register r) word = record { keeps = λ a turn h w. set_previous_within r word a h w }
write_previous_place_kept (places.Memory va) word = record { keeps = λ a turn h w. write_previous_kept va word turn a h w }

-- EVERY INSTRUCTION

pub execute_kept : (op : Op) → Kept (execute_of op)
unfolding execute_of
execute_kept (ops.Single op size o) =
    then_kept (place_kept size o) (λ place. then_kept (read_place_kept size place)
    (λ number. then_kept (set_codes_for_kept (single_of op size number)) (λ result. write_place_kept size place result)))
execute_kept (ops.StoreOnly op size o) =
    then_kept (place_kept size o)
    (λ place. then_kept (set_codes_for_kept (store_only_of op size)) (λ result. write_place_kept size place result))
execute_kept (ops.Tst size o) = then_kept (value_kept size o) (λ number. set_codes_kept (λ _. logic_codes (width_of size) number false))
execute_kept (ops.Modify op size source destination) =
    then_kept (operands_kept size source destination) (λ taken. then_kept (read_place_kept size taken.place)
    (λ number. then_kept (set_codes_for_kept (modify_of op size taken.source number))
    (λ result. write_place_kept size taken.place result)))
execute_kept (ops.Compare op size source destination) =
    then_kept (operands_kept size source destination) (λ taken. then_kept (read_place_kept size taken.place)
    (λ number. set_codes_kept (compare_of op size taken.source number)))
execute_kept (ops.Mov size source destination) =
    then_kept (operands_kept size source destination) (λ taken. then_kept (set_codes_for_kept (bitwise size taken.source))
    (λ result. write_moved_kept size taken.place result))
execute_kept (ops.Mul r o) =
    then_kept (value_kept Word o) (λ factor. then_kept (get_kept r) (λ number. then_kept (set_codes_for_kept (λ _. mul_of number factor))
    (λ product. change_kept (set_pair_of r product) (pair_within r product))))
execute_kept (ops.Div r o) =
    then_kept (value_kept Word o) (λ divisor. then_kept (gets_kept (pair_of_registers r)) (λ pair. then_kept (set_codes_kept (λ _. (div_of pair divisor).codes))
    (λ _. change_kept (quotient_stored r (div_of pair divisor)) (quotient_within r (div_of pair divisor)))))
execute_kept (ops.Ash r o) =
    then_kept (value_kept Word o) (λ count. then_kept (get_kept r) (λ number. then_kept (set_codes_for_kept (λ _. ash_of number count))
    (λ shifted. set_kept r shifted)))
execute_kept (ops.Ashc r o) =
    then_kept (value_kept Word o) (λ count. then_kept (gets_kept (pair_of_registers r)) (λ pair. then_kept (set_codes_for_kept (λ _. ashc_of pair count))
    (λ shifted. change_kept (set_pair_of r shifted) (pair_within r shifted))))
execute_kept (ops.Branch condition offset) = change_kept (branched condition offset) (branched_within condition offset)
execute_kept (ops.Jmp o) = then_kept (target_kept o) (set_kept Pc)
execute_kept (ops.Jsr link o) =
    then_kept (target_kept o) (λ target. then_kept (push_kept link) (λ _. then_kept (get_kept Pc)
    (λ pc. then_kept (set_kept link pc) (λ _. set_kept Pc target))))
execute_kept (ops.Rts link) =
    then_kept (get_kept link) (λ return. then_kept (set_kept Pc return) (λ _. then_kept pop_kept
    (λ word. set_kept link word)))
execute_kept (ops.Mark count) =
    then_kept (get_kept Pc) (λ pc. then_kept (set_kept Sp (plus pc (2 * count))) (λ _. then_kept (get_kept R5)
    (λ return. then_kept (set_kept Pc return) (λ _. then_kept pop_kept (λ word. set_kept R5 word)))))
execute_kept (ops.Sob r count) =
    then_kept (get_kept r) (λ number. then_kept (set_kept r (minus number 1)) (λ _. change_kept (counted_back r count) (counted_within r count)))
execute_kept (ops.Codes op named) = set_codes_kept (named_codes_of op named)
execute_kept (ops.Trap op) = fail_kept (trap_vector op)
execute_kept (ops.Return op) = then_kept pop_kept (λ pc. then_kept pop_kept (λ word. change_kept (λ h. resumed pc (status_from_return h.processor.status word) h) (returned_within pc word)))
execute_kept ops.Halt = halt_kept
execute_kept ops.Wait = change_kept waiting waiting_within
execute_kept ops.Reset = reset_kept
execute_kept (ops.Mfpi o) =
    then_kept (place_kept Word o) (λ place. then_kept (read_previous_place_kept place)
    (λ word. then_kept (step_down_kept Sp 2) (λ top. then_kept (set_codes_for_kept (bitwise Word word))
    (λ result. write_kept Word top result))))
execute_kept (ops.Mtpi o) =
    then_kept pop_kept (λ word. then_kept (place_kept Word o) (λ place. then_kept (set_codes_for_kept (bitwise Word word))
    (λ result. write_previous_place_kept place result)))
execute_kept ops.Reserved = fail_kept ReservedInstruction
