-- What a slot owns.
use base.Fml.{Fml, ftrue}
use base.Stored.{Coded}
use denote.RawPtr.{Ptr}
use Rattle.std.specs.Prelude.{None, Some}
use Rattle.std.specs.Coded.{coded_option}
use Rattle.std.specs.Global.{Global}
use Rattle.std.specs.Box.Ownership.{box_owns}
use Rattle.std.specs.contracts.impls.GlobalAllocator.TheImpl.{ghosts}
use Rattle.p11_handles.specs.Held.{Held}
use Rattle.p11_handles.specs.contracts.held_machine.HeldMachine.{the_row}

-- a slot that holds a machine owns its box
abbrev pub slot_owns : Global → Ptr → Held → Fml
slot_owns alloc at None = ftrue
slot_owns alloc at (Some kept) = box_owns (ghosts.dealloc_token alloc) the_row at kept

abbrev pub held_coded : Coded Held
held_coded = coded_option the_row.coded
