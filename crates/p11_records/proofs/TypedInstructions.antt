-- Characters that were typed and that nobody took are nothing to an instruction.
use Rattle.std.proofs.Common.{◌≡◌, refl, sym, subst, ℕ, ◌*◌, ◌==◌, false, List, Ok}
use Rattle.p11_alu.specs.CountedShifts.{ash_of, ashc_of}
use Rattle.p11_alu.specs.Numbers.{val}
use Rattle.p11_alu.specs.Products.{div_of, mul_of}
use Rattle.p11_alu.specs.Results.{logic_codes}
use Rattle.p11_alu.specs.declared.pair.Pair.{Pair}
use Rattle.p11_alu.specs.declared.quotient.Quotient.{Quotient}
use Rattle.p11_decode.specs.declared.op.Condition.{Condition}
use Rattle.p11_decode.specs.declared.op.Op.{Op}
use Rattle.p11_decode.specs.declared.op.Op.TheVariants as ops
use Rattle.p11_decode.specs.declared.operand.Mode as modes
use Rattle.p11_decode.specs.declared.operand.Mode.TheVariants.{Register, RegisterDeferred, AutoIncrement, AutoIncrementDeferred, AutoDecrement, AutoDecrementDeferred, Index, IndexDeferred}
use Rattle.p11_decode.specs.declared.operand.Operand.{Operand}
use Rattle.p11_decode.specs.declared.operand.Register as registers
use Rattle.p11_decode.specs.declared.operand.Register.TheVariants.{R5, Sp, Pc}
use Rattle.p11_decode.specs.declared.operand.Size.{Size}
use Rattle.p11_decode.specs.declared.operand.Size.TheVariants.{Word}
use Rattle.p11_psw.specs.Sources.{status_from_return}
use Rattle.p11_psw.specs.declared.psw.Psw.{Psw}
use Rattle.p11_psw.specs.declared.vector.Vector.TheVariants.{BusError, ReservedInstruction}
use Rattle.p11_unibus.specs.Events.{bus_after_init}
use Rattle.p11_cpu.specs.DoubleOperand.{compare_of, modify_of}
use Rattle.p11_cpu.specs.ExtendedInstructions.{quotient_stored}
use Rattle.p11_cpu.specs.Instructions.{execute_of}
use Rattle.p11_cpu.specs.Operands.{address_in, indexed, is_mode_0, operands_of, place_in, place_of, pop_of, push_register_of, read_place_of, step_of, stored_in, target_of, value_of, write_moved_of, write_place_of}
use Rattle.p11_cpu.specs.PreviousSpace.{read_previous_of, write_previous_of}
use Rattle.p11_cpu.specs.ProcessorControl.{resumed, waiting, halt_instruction, halted, initialized, is_kernel, named_codes_of, reset_in_kernel, trap_vector}
use Rattle.p11_cpu.specs.ProgramControl.{branched, counted_back, is_taken}
use Rattle.p11_cpu.specs.References.{read_at, read_in, write_at, write_in}
use Rattle.p11_cpu.specs.Registers.{codes_of, pair_of_registers, register_in, register_of, set_pair_of, set_register_in, set_register_of}
use Rattle.p11_cpu.specs.SingleOperand.{bitwise, single_of, store_only_of}
use Rattle.p11_cpu.specs.State.{HardwareState}
use Rattle.p11_cpu.specs.Step.{Step, change, fail, gets, pure}
use Rattle.p11_cpu.specs.Words.{minus, plus, sign_extended, width_of}
use Rattle.p11_records.proofs.TypedSteps.{Any, Blind, Source, behind, then_blind, pure_blind, gets_blind, change_blind, fail_blind, either_blind, either_behind, read_in_blind, write_in_blind, read_blind, write_blind, get_blind, set_blind, step_up_blind, step_down_blind, set_codes_blind, set_codes_for_blind}

-- REGISTERS

pair_got : (r : registers.Register) → Blind (gets (pair_of_registers r)) Any
unfolding pair_of_registers register_of
pair_got r = gets_blind (pair_of_registers r) (λ earlier h. refl) (λ h. tt)

pair_set : (r : registers.Register) (pair : Pair) → Blind (change (set_pair_of r pair)) Any
unfolding set_pair_of set_register_of
pair_set r pair = change_blind (set_pair_of r pair) (λ earlier h. refl)

quotient_set : (r : registers.Register) (q : Quotient) → Blind (change (quotient_stored r q)) Any
unfolding quotient_stored set_pair_of set_register_of
quotient_set r q = change_blind (quotient_stored r q) (λ earlier h. either_behind q.fits earlier _ h _ _ refl refl)

branch_blind : (condition : Condition) (offset : ℕ) → Blind (change (branched condition offset)) Any
unfolding branched set_register_of register_of codes_of
branch_blind condition offset =
    change_blind (branched condition offset) (λ earlier h. either_behind (is_taken condition (codes_of h)) earlier _ h _ _ refl refl)

counted_blind : (r : registers.Register) (count : ℕ) → Blind (change (counted_back r count)) Any
unfolding counted_back set_register_of register_of
counted_blind r count =
    change_blind (counted_back r count)
    (λ earlier h. either_behind (register_of r h == 0) earlier h (set_register_of Pc (minus (register_of Pc h) (2 * count)) h) _ _ refl refl)

-- OPERANDS

register_got : {A : Type 0} (r : registers.Register) (f : ℕ → A) → Blind (gets (λ h. f (register_of r h))) Any
unfolding register_of
register_got r f = gets_blind (λ h. f (register_of r h)) (λ earlier h. refl) (λ h. tt)

register_put : (r : registers.Register) (f : ℕ → ℕ) → Blind (change (λ h. set_register_of r (f (register_of r h)) h)) Any
unfolding register_of set_register_of
register_put r f = change_blind (λ h. set_register_of r (f (register_of r h)) h) (λ earlier h. refl)

indexed_blind : (r : registers.Register) → Blind (indexed r) Any
unfolding indexed
indexed_blind r =
    then_blind (step_up_blind Pc 2) (λ pc _. then_blind (read_blind Word pc) (λ index _. then_blind (get_blind r) (λ base _. pure_blind (plus index base) tt)))

-- PLACES, whose type other crates can't name: that of what is read at one

abbrev Place : Type 0
Place = Source read_previous_of

-- what is done at a place
record Uses : Type 0 where
  reads : Size → Step ℕ
  writes : Size → ℕ → Step (Unit {0})
  moves : Size → ℕ → Step (Unit {0})
  reads_before : Step ℕ
  writes_before : ℕ → Step (Unit {0})
  address : Step ℕ

abbrev uses : Place → Uses
uses place =
    record {
      reads = λ size. read_place_of size place;
      writes = λ size value. write_place_of size place value;
      moves = λ size value. write_moved_of size place value;
      reads_before = read_previous_of place;
      writes_before = λ word. write_previous_of place word;
      address = address_in place;
    }

-- each of it is the same behind characters that were typed earlier
record AllBlind (u : Uses) : Type 0 where
  reads : (size : Size) → Blind (u.reads size) Any
  writes : (size : Size) (value : ℕ) → Blind (u.writes size value) Any
  moves : (size : Size) (value : ℕ) → Blind (u.moves size value) Any
  reads_before : Blind u.reads_before Any
  writes_before : (word : ℕ) → Blind (u.writes_before word) Any
  address : Blind u.address Any

record Useful (place : Place) : Type 0 where
  all : AllBlind (uses place)

-- a register, and a place in memory
abbrev register_uses : registers.Register → Uses
register_uses r =
    record {
      reads = λ size. gets (λ h. val (width_of size) (register_of r h));
      writes = λ size value. change (λ h. set_register_of r (stored_in size value (register_of r h)) h);
      moves = λ size value. change (set_register_of r (sign_extended size value));
      reads_before = λ turn h. (h, Ok (register_in h.processor.status.previous r h.processor.registers));
      writes_before = λ word turn h. (set_register_in h.processor.status.previous r word h, Ok tt);
      address = fail BusError;
    }

abbrev memory_uses : ℕ → Uses
memory_uses a =
    record {
      reads = λ size. read_at size a;
      writes = λ size value. write_at size a value;
      moves = λ size value. write_at size a value;
      reads_before = λ turn h. read_in h.processor.status.previous Word a turn h;
      writes_before = λ word turn h. write_in h.processor.status.previous Word a word turn h;
      address = pure a;
    }

register_blind : (r : registers.Register) → AllBlind (register_uses r)
register_blind r =
    record {
      reads = λ size. register_got r (val (width_of size));
      writes = λ size value. register_put r (stored_in size value);
      moves = λ size value. set_blind r (sign_extended size value);
      reads_before = record { same = λ earlier turn h. refl; gives = λ turn h. tt };
      writes_before = λ word. record { same = λ earlier turn h. refl; gives = λ turn h. tt };
      address = fail_blind BusError;
    }

memory_blind : (a : ℕ) → AllBlind (memory_uses a)
memory_blind a =
    record {
      reads = λ size. read_blind size a;
      writes = λ size value. write_blind size a value;
      moves = λ size value. write_blind size a value;
      reads_before = record {
        same = λ earlier turn h. (read_in_blind h.processor.status.previous Word a).same earlier turn h;
        gives = λ turn h. (read_in_blind h.processor.status.previous Word a).gives turn h;
      };
      writes_before = λ word. record {
        same = λ earlier turn h. (write_in_blind h.processor.status.previous Word a word).same earlier turn h;
        gives = λ turn h. (write_in_blind h.processor.status.previous Word a word).gives turn h;
      };
      address = pure_blind a tt;
    }

here : (r : registers.Register) (place : Place) → uses place ≡ register_uses r → Useful place
here r place e = record { all = subst AllBlind (sym e) (register_blind r) }

there : (a : ℕ) (place : Place) → uses place ≡ memory_uses a → Useful place
there a place e = record { all = subst AllBlind (sym e) (memory_blind a) }

place_in_blind : (mode : modes.Mode) (size : Size) (r : registers.Register) → Blind (place_in mode size r) Useful
unfolding place_in read_place_of write_place_of write_moved_of read_previous_of write_previous_of register_of
place_in_blind Register size r = pure_blind _ (here r _ refl)
place_in_blind RegisterDeferred size r = gets_blind _ (λ earlier h. refl) (λ h. there (register_of r h) _ refl)
place_in_blind AutoIncrement size r = then_blind (step_up_blind r (step_of size r)) (λ a _. pure_blind _ (there a _ refl))
place_in_blind AutoIncrementDeferred size r =
    then_blind (then_blind (step_up_blind r 2) (λ a _. read_blind Word a)) (λ a _. pure_blind _ (there a _ refl))
place_in_blind AutoDecrement size r = then_blind (step_down_blind r (step_of size r)) (λ a _. pure_blind _ (there a _ refl))
place_in_blind AutoDecrementDeferred size r =
    then_blind (then_blind (step_down_blind r 2) (λ a _. read_blind Word a)) (λ a _. pure_blind _ (there a _ refl))
place_in_blind Index size r = then_blind (indexed_blind r) (λ a _. pure_blind _ (there a _ refl))
place_in_blind IndexDeferred size r =
    then_blind (then_blind (indexed_blind r) (λ a _. read_blind Word a)) (λ a _. pure_blind _ (there a _ refl))

place_blind : (size : Size) (o : Operand) → Blind (place_of size o) Useful
place_blind size o = place_in_blind o.mode size o.register

value_blind : (size : Size) (o : Operand) → Blind (value_of size o) Any
unfolding value_of
value_blind size o = then_blind (place_blind size o) (λ place useful. useful.all.reads size)

operands_blind : (size : Size) (source destination : Operand) → Blind (operands_of size source destination) (λ taken. Useful taken.place)
unfolding operands_of
operands_blind size source destination =
    either_blind (is_mode_0 source.mode) _ _
    (then_blind (place_blind size destination) (λ p useful. then_blind (value_blind size source) (λ s _. pure_blind (record { source = s; place = p }) useful)))
    (then_blind (value_blind size source) (λ s _. then_blind (place_blind size destination) (λ p useful. pure_blind (record { source = s; place = p }) useful)))

target_blind : (o : Operand) → Blind (target_of o) Any
unfolding target_of
target_blind o = then_blind (place_blind Word o) (λ place useful. useful.all.address)

push_blind : (r : registers.Register) → Blind (push_register_of r) Any
unfolding push_register_of
push_blind r = then_blind (step_down_blind Sp 2) (λ top _. then_blind (get_blind r) (λ word _. write_blind Word top word))

pop_blind : Blind pop_of Any
unfolding pop_of
pop_blind = then_blind (step_up_blind Sp 2) (λ a _. read_blind Word a)

-- PROCESSOR CONTROL

pub resumed_behind : (pc : ℕ) (earlier : List ℕ) (h : HardwareState) (status : Psw) → resumed pc status (behind earlier h) ≡ behind earlier (resumed pc status h)
unfolding resumed
resumed_behind pc earlier h status = refl

pub halted_behind : (earlier : List ℕ) (h : HardwareState) → halted (behind earlier h) ≡ behind earlier (halted h)
unfolding halted
halted_behind earlier h = refl

waiting_behind : (earlier : List ℕ) (h : HardwareState) → waiting (behind earlier h) ≡ behind earlier (waiting h)
unfolding waiting
waiting_behind earlier h = refl

halt_blind : Blind halt_instruction Any
halt_blind =
    then_blind (gets_blind {P = Any} (λ h. h.processor.status.current) (λ earlier h. refl) (λ h. tt))
    (λ mode _. either_blind (is_kernel mode) _ _ (change_blind halted halted_behind) (fail_blind ReservedInstruction))

reset_behind : (earlier : List ℕ) (h : HardwareState) → reset_in_kernel (behind earlier h) ≡ behind earlier (reset_in_kernel h)
unfolding reset_in_kernel initialized bus_after_init
reset_behind earlier h = either_behind (is_kernel h.processor.status.current) earlier _ h _ _ refl refl

-- EVERY INSTRUCTION

pub execute_blind : (op : Op) → Blind (execute_of op) Any
unfolding execute_of
execute_blind (ops.Single op size o) =
    then_blind (place_blind size o) (λ place useful. then_blind (useful.all.reads size)
    (λ number _. then_blind (set_codes_for_blind (single_of op size number)) (λ result _. useful.all.writes size result)))
execute_blind (ops.StoreOnly op size o) =
    then_blind (place_blind size o)
    (λ place useful. then_blind (set_codes_for_blind (store_only_of op size)) (λ result _. useful.all.writes size result))
execute_blind (ops.Tst size o) = then_blind (value_blind size o) (λ number _. set_codes_blind (λ _. logic_codes (width_of size) number false))
execute_blind (ops.Modify op size source destination) =
    then_blind (operands_blind size source destination) (λ taken useful. then_blind (useful.all.reads size)
    (λ number _. then_blind (set_codes_for_blind (modify_of op size taken.source number))
    (λ result _. useful.all.writes size result)))
execute_blind (ops.Compare op size source destination) =
    then_blind (operands_blind size source destination) (λ taken useful. then_blind (useful.all.reads size)
    (λ number _. set_codes_blind (compare_of op size taken.source number)))
execute_blind (ops.Mov size source destination) =
    then_blind (operands_blind size source destination) (λ taken useful. then_blind (set_codes_for_blind (bitwise size taken.source))
    (λ result _. useful.all.moves size result))
execute_blind (ops.Mul r o) =
    then_blind (value_blind Word o) (λ factor _. then_blind (get_blind r) (λ number _. then_blind (set_codes_for_blind (λ _. mul_of number factor))
    (λ product _. pair_set r product)))
execute_blind (ops.Div r o) =
    then_blind (value_blind Word o) (λ divisor _. then_blind (pair_got r) (λ pair _. then_blind (set_codes_blind (λ _. (div_of pair divisor).codes))
    (λ _ _. quotient_set r (div_of pair divisor))))
execute_blind (ops.Ash r o) =
    then_blind (value_blind Word o) (λ count _. then_blind (get_blind r) (λ number _. then_blind (set_codes_for_blind (λ _. ash_of number count))
    (λ shifted _. set_blind r shifted)))
execute_blind (ops.Ashc r o) =
    then_blind (value_blind Word o) (λ count _. then_blind (pair_got r) (λ pair _. then_blind (set_codes_for_blind (λ _. ashc_of pair count))
    (λ shifted _. pair_set r shifted)))
execute_blind (ops.Branch condition offset) = branch_blind condition offset
execute_blind (ops.Jmp o) = then_blind (target_blind o) (λ a _. set_blind Pc a)
execute_blind (ops.Jsr link o) =
    then_blind (target_blind o) (λ target _. then_blind (push_blind link) (λ _ _. then_blind (get_blind Pc)
    (λ pc _. then_blind (set_blind link pc) (λ _ _. set_blind Pc target))))
execute_blind (ops.Rts link) =
    then_blind (get_blind link) (λ return _. then_blind (set_blind Pc return) (λ _ _. then_blind pop_blind
    (λ word _. set_blind link word)))
execute_blind (ops.Mark count) =
    then_blind (get_blind Pc) (λ pc _. then_blind (set_blind Sp (plus pc (2 * count))) (λ _ _. then_blind (get_blind R5)
    (λ return _. then_blind (set_blind Pc return) (λ _ _. then_blind pop_blind (λ word _. set_blind R5 word)))))
execute_blind (ops.Sob r count) =
    then_blind (get_blind r) (λ number _. then_blind (set_blind r (minus number 1)) (λ _ _. counted_blind r count))
execute_blind (ops.Codes op named) = set_codes_blind (named_codes_of op named)
execute_blind (ops.Trap op) = fail_blind (trap_vector op)
execute_blind (ops.Return op) = then_blind pop_blind (λ pc _. then_blind pop_blind (λ word _. change_blind (λ h. resumed pc (status_from_return h.processor.status word) h) (λ earlier h. resumed_behind pc earlier h (status_from_return h.processor.status word))))
execute_blind ops.Halt = halt_blind
execute_blind ops.Wait = change_blind waiting waiting_behind
execute_blind ops.Reset = change_blind reset_in_kernel reset_behind
execute_blind (ops.Mfpi o) =
    then_blind (place_blind Word o) (λ place useful. then_blind useful.all.reads_before
    (λ word _. then_blind (step_down_blind Sp 2) (λ top _. then_blind (set_codes_for_blind (bitwise Word word))
    (λ result _. write_blind Word top result))))
execute_blind (ops.Mtpi o) =
    then_blind pop_blind (λ word _. then_blind (place_blind Word o) (λ place useful. then_blind (set_codes_for_blind (bitwise Word word))
    (λ result _. useful.all.writes_before result)))
execute_blind ops.Reserved = fail_blind ReservedInstruction
