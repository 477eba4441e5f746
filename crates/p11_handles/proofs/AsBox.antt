-- A box of a machine, a raw one, and a slot with a machine own the same.
use mir.Syntax.{impl, tnil, dnil}
use mathlib.Core.List.{[]}
use denote.Signature.{Slot, plain}
use Rattle.std.proofs.Common.{◌≡◌, None, Some, refl, arith}
use Rattle.std_alloc.proofs.BoxSteps.Form.{Bx}
use Rattle.std.specs.contracts.alloc.Global as Heap
use Rattle.std.specs.contracts.impls.GlobalAllocator.TheImpl.{ghosts}
use Rattle.std.proofs.alloc.Global.TheLaws as heap
use Rattle.p11_handles.specs.contracts.held_machine.HeldMachine as HeldMachine
use Rattle.p11_handles.proofs.held_machine.HeldMachine.TheLaws as machine
use Rattle.p11_handles.specs.contracts.raw_box.RawBox as RawBox
use Rattle.p11_handles.specs.contracts.slot.Slot as MachineSlot
use Rattle.p11_handles.specs.Held.{Kept, Held, machines_of}

abbrev pub E : Bx
E = record { row = HeldMachine.the_row; laws = machine.the_row_laws; al = record { row = Heap.the_row; laws = heap.the_row_laws; g = ghosts; d = impl [] tnil dnil; drops = impl [] tnil dnil } }

abbrev pub FromRaw : Slot 0
FromRaw = plain (λ _. RawBox.the_row HeldMachine.the_row Heap.the_row ghosts)

abbrev pub FromSlot : Slot 0
FromSlot = plain (λ _. MachineSlot.the_row)

-- one machine is held
pub some_held : (held : Held) → machines_of held ≡ 1 → (kept : Kept) × (held ≡ Some kept)
unfolding machines_of
some_held None one = absurd (omega (arith, one))
some_held (Some kept) one = (kept, refl)
