-- A box of a console, a raw one, and a slot with a console own the same.
use mir.Syntax.{impl, tnil, dnil}
use mathlib.Core.List.{[]}
use denote.Signature.{Slot, plain}
use Rattle.std.proofs.Common.{◌≡◌, None, Some, refl, arith}
use Rattle.std_alloc.proofs.BoxSteps.Form.{Bx}
use Rattle.std.specs.contracts.alloc.Global as Heap
use Rattle.std.specs.contracts.impls.GlobalAllocator.TheImpl.{ghosts}
use Rattle.std.proofs.alloc.Global.TheLaws as heap
use Rattle.p11_handles.specs.contracts.held_console.HeldConsole as HeldConsole
use Rattle.p11_handles.proofs.held_console.HeldConsole.TheLaws as console
use Rattle.p11_handles.specs.contracts.raw_box.RawBox as RawBox
use Rattle.p11_handles.specs.contracts.console_slot.ConsoleSlot as ConsoleSlot
use Rattle.p11_handles.specs.HeldConsoles.{Dialogue, HeldDialogue, consoles_of}

abbrev pub E : Bx
E = record { row = HeldConsole.the_row; laws = console.the_row_laws; al = record { row = Heap.the_row; laws = heap.the_row_laws; g = ghosts; d = impl [] tnil dnil; drops = impl [] tnil dnil } }

abbrev pub FromRaw : Slot 0
FromRaw = plain (λ _. RawBox.the_row HeldConsole.the_row Heap.the_row ghosts)

abbrev pub FromSlot : Slot 0
FromSlot = plain (λ _. ConsoleSlot.the_row)

-- one console is held
pub some_held : (held : HeldDialogue) → consoles_of held ≡ 1 → (dialogue : Dialogue) × (held ≡ Some dialogue)
unfolding consoles_of
some_held None one = absurd (omega (arith, one))
some_held (Some dialogue) one = (dialogue, refl)
