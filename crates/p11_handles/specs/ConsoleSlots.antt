-- What a console's slot owns.
use base.Fml.{Fml, ftrue}
use base.Stored.{Coded}
use denote.RawPtr.{Ptr}
use Rattle.std.specs.Prelude.{None, Some}
use Rattle.std.specs.Coded.{coded_option}
use Rattle.std.specs.Global.{Global}
use Rattle.std.specs.Box.Ownership.{box_owns}
use Rattle.std.specs.contracts.impls.GlobalAllocator.TheImpl.{ghosts}
use Rattle.p11_handles.specs.HeldConsoles.{HeldDialogue}
use Rattle.p11_handles.specs.contracts.held_console.HeldConsole.{the_row}

-- a slot that holds a console owns its box
abbrev pub console_slot_owns : Global → Ptr → HeldDialogue → Fml
console_slot_owns alloc at None = ftrue
console_slot_owns alloc at (Some dialogue) = box_owns (ghosts.dealloc_token alloc) the_row at dialogue

abbrev pub dialogue_coded : Coded HeldDialogue
dialogue_coded = coded_option the_row.coded
