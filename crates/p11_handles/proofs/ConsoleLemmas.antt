-- How calls end that C makes on a console.
use Rattle.std.proofs.Common.{◌≡◌, ◌<◌, ◌≤◌, ℕ, ℤ, Bool, true, false, ◌&&◌, Ok, Err, None, Some, refl, sym, ap, ◌∙◌, subst}
use Rattle.std.specs.Prelude.{nat_le}
use Rattle.std.proofs.lemmas.Bool.{lt-leb, le-leb}
use Rattle.p11_lines.specs.declared.fault.Fault.{Fault}
use Rattle.p11_cpu.specs.Operator.{new_machine}
use Rattle.p11_panel.specs.Calls.Sizes.{Sizes, is_size, sizes_of}
use Rattle.p11_console.specs.State.{opened}
use Rattle.p11_handles.specs.HeldConsoles.{Dialogue, HeldDialogue, settings_of}
use Rattle.p11_handles.specs.ConsoleCalls.{OnConsole, OpensConsole, Wished, can_open, dialogue_of}
use Rattle.p11_handles.specs.Statuses.{number_of_status}
use Rattle.p11_handles.specs.declared.status.Status.{Status}
use Rattle.p11_handles.specs.declared.status.Status.TheVariants.{Done, NoMemory, BadSize, NoMachine}
use Rattle.p11_handles.proofs.CallLemmas.{refused_size, accepted_size, size_of}

-- a call on what is held
pub on_none : (Does : Dialogue → Status → Dialogue → Type 0) (Nothing : Type 0) (held held' : HeldDialogue) (number : ℤ) → held ≡ None → number ≡ number_of_status NoMachine → held' ≡ None → Nothing → OnConsole Does Nothing held number held'
unfolding OnConsole
on_none Does Nothing held held' number none is none' nothing =
    let P : HeldDialogue → Type 0 = λ h. OnConsole Does Nothing h number held' in
    subst P (sym none) (is, none', nothing)

pub on_some : (Does : Dialogue → Status → Dialogue → Type 0) (Nothing : Type 0) (held held' : HeldDialogue) (number : ℤ) (was is : Dialogue) (status : Status) → held ≡ Some was → number ≡ number_of_status status → held' ≡ Some is → Does was status is → OnConsole Does Nothing held number held'
unfolding OnConsole
on_some Does Nothing held held' number was is status some number_is some' does =
    let P : HeldDialogue → Type 0 = λ h. OnConsole Does Nothing h number held' in
    subst P (sym some) (status, number_is, is, some', does)

-- a console is made or refused
and_false : (b : Bool) → (b && false) ≡ false
and_false true = refl
and_false false = refl

pub size_refused : (it : Wished) (fault : Fault) → Err fault ≡ sizes_of it.kwords it.lines → (held : HeldDialogue) → OpensConsole it BadSize held held
unfolding OpensConsole
size_refused it fault e held = (ap (λ (b : Bool). b && nat_le it.manner 2) (refused_size it.kwords it.lines fault e), refl)

pub manner_refused : (it : Wished) → 2 < it.manner → (held : HeldDialogue) → OpensConsole it BadSize held held
unfolding OpensConsole
manner_refused it more held = (ap (λ (b : Bool). is_size it.kwords it.lines && b) (lt-leb it.manner 2 more) ∙ and_false (is_size it.kwords it.lines), refl)

opens : (it : Wished) (sizes : Sizes) → Ok sizes ≡ sizes_of it.kwords it.lines → it.manner ≤ 2 → can_open it.kwords it.lines it.manner ≡ true
opens it sizes sized fits = ap (λ (b : Bool). b && nat_le it.manner 2) (accepted_size it.kwords it.lines sizes sized) ∙ le-leb it.manner 2 fits

pub no_memory : (it : Wished) (sizes : Sizes) → Ok sizes ≡ sizes_of it.kwords it.lines → it.manner ≤ 2 → (held : HeldDialogue) → OpensConsole it NoMemory held held
unfolding OpensConsole
no_memory it sizes sized fits held = (opens it sizes sized fits, refl)

pub opens_done : (it : Wished) (sizes : Sizes) (dialogue : Dialogue) → Ok sizes ≡ sizes_of it.kwords it.lines → it.manner ≤ 2 → dialogue ≡ opened (new_machine sizes.kwords) (settings_of it.manner it.strict it.saveless it.talk) → (held : HeldDialogue) → OpensConsole it Done held (Some dialogue)
unfolding OpensConsole
opens_done it sizes dialogue sized fits made held =
    let same : dialogue ≡ dialogue_of it = made ∙ ap (λ (k : ℕ). opened (new_machine k) (settings_of it.manner it.strict it.saveless it.talk)) (size_of it.kwords it.lines sizes sized) in
    (opens it sizes sized fits, ap (λ (d : Dialogue). Some d) same)
