-- What becomes of a command: it is refused and leaves all as it was, or has another answer; only a run stops.
use Rattle.std.proofs.Common.{◌≡◌, ◌⊎◌, ℕ, ◌%◌, Bool, true, false, Option, Some, None, List, [], length, Result, Ok, Err, refl, sym, ap, ◌∙◌, arith, inl, inr, ◌==◌, if◌then◌else◌}
use Rattle.std.specs.Prelude.{nat_le, nat_lt}
use Rattle.std.specs.Option.{option_map_or}
use Rattle.p11_lines.specs.declared.answer.Answer.{Answer}
use Rattle.p11_lines.specs.declared.answer.Answer.TheVariants as answers
use Rattle.p11_lines.specs.declared.answer.StopReason.{StopReason}
use Rattle.p11_lines.specs.declared.fault.Fault.{Fault}
use Rattle.p11_lines.specs.declared.fault.Fault.TheVariants.{DriveBusy, KeysFull, NoMemory, OddAddress}
use Rattle.p11_cpu.specs.State.{State}
use Rattle.p11_cpu.specs.Operator.{console_register, start_of, set_reg_of}
use Rattle.p11_cpu.specs.OperatorDevices.{room_of, mount_of, unmount_of}
use Rattle.p11_overlay.specs.Drive.{Contents, image_of}
use Rattle.p11_rk11.specs.State.{drive_of, drive_count, contents_of, is_busy}
use Rattle.p11_tape.specs.Reading.{Meaning, reading}
use Rattle.p11_tape.specs.declared.fault.TapeFault.{TapeFault}
use Rattle.p11_panel.specs.declared.command.Command.{Command}
use Rattle.p11_panel.specs.declared.command.Command.TheVariants as commands
use Rattle.p11_panel.specs.Commands.{outcome, turns_in, CommandStep}
use Rattle.p11_panel.specs.Disks.{mount_fault, on_pack}
use Rattle.p11_panel.specs.Keys.{pressed}
use Rattle.p11_panel.specs.Ranges.{deposit_fault, deposited, examine_fault, examined}
use Rattle.p11_panel.specs.Refusals.{IsRefused, unless}
use Rattle.p11_panel.specs.Tapes.{all_fit, tape_loaded}
use Rattle.p11_dialogue.specs.Runs.{typed_in}

-- an answer that neither refuses nor stops
abbrev pub is_plain : {A : Type 0} → Answer A → Bool
is_plain (answers.Refused fault) = false
is_plain (answers.Stop typed reason turns pc) = false
is_plain _ = true

-- A COMMAND

-- an outcome that is plain, or a refusal that changes nothing
abbrev pub Plain : {A : Type 0} → State → State × Answer A → Type 0
Plain s r = (is_plain r.1 ≡ true) ⊎ ((fault : Fault) × (r ≡ (s, answers.Refused fault)))

plain_unless : {A : Type 0} (fault : Option Fault) (s : State) (r : State × Answer A) → is_plain r.1 ≡ true → Plain s (unless fault s r)
plain_unless None s r e = inl e
plain_unless (Some fault) s r e = inr (fault, refl)

plain_if : {A : Type 0} (refuses : Bool) (fault : Fault) (s : State) (r : State × Answer A) → Plain s r → Plain s (if refuses then (s, answers.Refused fault) else r)
plain_if true fault s r h = inr (fault, refl)
plain_if false fault s r h = h

plain_some : {A X : Type 0} (found : Option X) (fault : Fault) (s : State) (r : X → State × Answer A) → ((x : X) → Plain s (r x)) → Plain s (option_map_or r found (s, answers.Refused fault))
plain_some None fault s r h = inr (fault, refl)
plain_some (Some x) fault s r h = h x

plain_pack : {A : Type 0} (drive : ℕ) (s : State) (r : Contents → State × Answer A) → ((pack : Contents) → Plain s (r pack)) → Plain s (on_pack drive s r)
plain_pack drive s r h = plain_if (nat_le drive_count drive) _ s _ (plain_some (contents_of (drive_of s.bus.disk drive)) _ s r h)

fits : {A : Type 0} (fit : Bool) (fault : Fault) (after s : State) (answer : Answer A) → is_plain answer ≡ true → Plain s (if fit then (after, answer) else (s, answers.Refused fault))
fits true fault after s answer e = inl e
fits false fault after s answer e = inr (fault, refl)

plain_tape : {A : Type 0} (tape : Result Meaning TapeFault) (s : State) → Plain {A = A} s (tape_loaded tape s)
plain_tape (Err fault) s = inr (_, refl)
plain_tape (Ok tape) s = fits (all_fit tape.placed s) _ _ s (answers.Tape (length tape.placed) tape.start) refl

picks : {A : Type 0} (one : Bool) (word words : Answer A) → is_plain word ≡ true → is_plain words ≡ true → is_plain (if one then word else words) ≡ true
picks true word words e f = e
picks false word words e f = f

examined_plain : (A : Type 0) (address n : ℕ) (s : State) → is_plain (examined {A = A} address n s).1 ≡ true
unfolding examined
examined_plain A address n s = picks {A = A} (n == 1) (answers.Word _ _) (answers.Words _ _) refl refl

-- STEP and CONTINUE stop, and nothing else does
abbrev pub runs : {A : Type 0} → Command A → Bool
runs (commands.Step n) = true
runs (commands.Continue n) = true
runs _ = false

pub plain : {A : Type 0} (command : Command A) (s : State) → runs command ≡ false → Plain s (outcome command s)
plain (commands.Mount drive image protect) s e = plain_unless (mount_fault drive image s) s (mount_of drive image protect s, answers.Done) refl
plain (commands.Unmount drive) s e =
    plain_pack drive s _ (λ pack. plain_if (is_busy drive s.bus.disk) DriveBusy s (unmount_of drive s, answers.Done) (inl refl))
plain (commands.Save drive) s e = plain_pack drive s _ (λ pack. inl refl)
plain (commands.Changed drive) s e = plain_pack drive s _ (λ pack. inl refl)
plain (commands.Load tape) s e = plain_tape (reading tape) s
plain {A} (commands.Examine address n) s e = plain_unless (examine_fault address n s) s (examined address n s) (examined_plain A address n s)
plain (commands.Deposit address words) s e = plain_unless (deposit_fault address (length words) s) s (deposited address words s, answers.Done) refl
plain (commands.Start address) s e = plain_if (address % 2 == 1) OddAddress s (start_of address s, answers.Done) (inl refl)
plain (commands.Key text) s e = plain_if (nat_lt (room_of s) (length text)) KeysFull s (pressed text s, answers.Done) (inl refl)
plain (commands.Set number word) s e = plain_some (console_register number) _ s (λ register. (set_reg_of register word s, answers.Done)) (λ register. inl refl)
plain (commands.Step n) s e = cc
plain (commands.Continue n) s e = cc
plain command s e = inl refl

no_turns : {A : Type 0} (answer : Answer A) → is_plain answer ≡ true → turns_in answer ≡ 0
no_turns (answers.Stop typed reason turns pc) e = cc
no_turns answer e = refl

pub plain_turns : {A : Type 0} (s : State) (r : State × Answer A) → Plain s r → turns_in r.1 ≡ 0
plain_turns s r (inl e) = no_turns r.1 e
plain_turns s r (inr (fault, e)) = ap (λ x. turns_in x.1) e

-- what a command answers that is no run: nothing stops it
abbrev pub Answered : {A : Type 0} → State → Answer A → State → Type 0
Answered s answer s' = (is_plain answer ≡ true) ⊎ ((fault : Fault) × IsRefused fault s answer s')

from_plain : {A : Type 0} (s : State) (r : State × Answer A) (answer : Answer A) (s' : State) → Plain s r → r ≡ (s', answer) → Answered s answer s'
from_plain s r answer s' (inl e) same = inl (ap (λ x. is_plain x.1) (sym same) ∙ e)
from_plain s r answer s' (inr (fault, e)) same =
    let refused = sym same ∙ e in
    inr (fault, (ap (λ x. x.1) refused, ap (λ x. x.0) refused))

pub answered : {A : Type 0} (s : State) (command : Command A) (answer : Answer A) (s' : State) → runs command ≡ false → CommandStep s command answer s' → Answered s answer s'
answered s command answer s' e (inl same) = from_plain s (outcome command s) answer s' (plain command s e) same
answered s command answer s' e (inr (inl h)) = inr (NoMemory, h.1)
answered s command answer s' e (inr (inr h)) = absurd (omega (arith, h.1, plain_turns s (outcome command s) (plain command s e)))

-- SAVE leaves the machine
same_if : {A : Type 0} (b : Bool) (s : State) (r q : State × Answer A) → r.0 ≡ s → q.0 ≡ s → (if b then r else q).0 ≡ s
same_if true s r q e f = e
same_if false s r q e f = f

same_some : {A X : Type 0} (found : Option X) (s : State) (show : X → Answer A) (other : Answer A) → (option_map_or {U = State × Answer A} (λ x. (s, show x)) found (s, other)).0 ≡ s
same_some None s show other = refl
same_some (Some x) s show other = refl

pub save_leaves : {A : Type 0} (drive : ℕ) (s : State) (shown : Answer A) (s' : State) → CommandStep s (commands.Save drive) shown s' → s' ≡ s
save_leaves {A} drive s shown s' (inl same) =
    sym (ap (λ r. r.0) same) ∙ same_if {A = A} (nat_le drive_count drive) s _ _ refl (same_some {A = A} (contents_of (drive_of s.bus.disk drive)) s (λ pack. answers.Image (image_of pack)) _)
save_leaves drive s shown s' (inr (inl h)) = h.1.1
save_leaves {A} drive s shown s' (inr (inr h)) =
    absurd (omega (arith, h.1, plain_turns {A = A} s (outcome (commands.Save drive) s) (plain (commands.Save drive) s refl)))

pub no_stop : {A : Type 0} (typed : List ℕ) (reason : StopReason) (turns pc : ℕ) (fault : Fault) → ◌≡◌ {A = Answer A} (answers.Stop typed reason turns pc) (answers.Refused fault) → ⊥
no_stop typed reason turns pc fault e = cc

-- only a run stops
pub shown_stop : {A : Type 0} (typed : List ℕ) (reason : StopReason) (turns pc : ℕ) (s s' : State) → Answered {A = A} s (answers.Stop typed reason turns pc) s' → ⊥
shown_stop typed reason turns pc s s' (inl e) = cc
shown_stop typed reason turns pc s s' (inr (fault, r)) = no_stop typed reason turns pc fault r.0

-- a command that is no run and types nothing
no_text : {A : Type 0} (answer : Answer A) → is_plain answer ≡ true → typed_in answer ≡ []
unfolding typed_in
no_text (answers.Stop typed reason turns pc) e = cc
no_text answer e = refl

pub types_nothing : {A : Type 0} (s : State) (answer : Answer A) (s' : State) → Answered s answer s' → typed_in answer ≡ []
unfolding typed_in
types_nothing s answer s' (inl e) = no_text answer e
types_nothing {A} s answer s' (inr (fault, h)) = ap typed_in h.0

-- a command that is refused
refused_is : {A : Type 0} (fault : Fault) (s s' : State) → Answered {A = A} s (answers.Refused fault) s' → s' ≡ s
refused_is fault s s' (inl e) = cc
refused_is fault s s' (inr (other, h)) = h.1

pub refused_leaves : {A : Type 0} (command : Command A) (fault : Fault) (s s' : State) → runs command ≡ false → CommandStep s command (answers.Refused fault) s' → s' ≡ s
refused_leaves {A} command fault s s' e h = refused_is {A = A} fault s s' (answered s command (answers.Refused fault) s' e h)

-- an answer that doesn't refuse
abbrev pub Answers : {A : Type 0} → Answer A → Type 0
Answers answer = (fault : Fault) → answer ≡ answers.Refused fault → ⊥
