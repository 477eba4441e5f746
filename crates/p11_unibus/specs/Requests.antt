-- Requests for interrupts: four sources, and in their table how each interrupts.
use Rattle.std.specs.Prelude.{Bool, ◌&&◌, [], ◌∷◌, Option, Some, None, find, nat_lt}
use Rattle.p11_psw.specs.Fields.{priority_number}
use Rattle.p11_psw.specs.declared.priority.Priority.{Priority}
use Rattle.p11_psw.specs.declared.priority.Priority.TheVariants.{Level4, Level5, Level6}
use Rattle.p11_psw.specs.declared.vector.Vector.{Vector}
use Rattle.p11_psw.specs.declared.vector.Vector.TheVariants as vectors
use Rattle.p11_kw11.specs.LineClock.{clock_after_service}
use Rattle.p11_dl11.specs.LineEvents.{line_after_service}
use Rattle.p11_dl11.specs.declared.register.Section.TheVariants as sections
use Rattle.p11_rk11.specs.State.{disk_after_service}
use Rattle.p11_unibus.specs.declared.source.Source.{Source}
use Rattle.p11_unibus.specs.declared.source.Source.TheVariants.{Clock, Disk, Receiver, Transmitter}
use Rattle.p11_unibus.specs.State.{BusState}

-- how a source interrupts: through which vector, at which level, and whether it requests
pub record Interrupt : Type 0 where
  pub vector : Vector
  pub level : Priority
  pub requests : BusState → Bool

-- the table of the sources
abbrev pub row : Source → Interrupt
row Clock = record { vector = vectors.Clock; level = Level6; requests = (λ b. b.clock.request) }
row Disk = record { vector = vectors.Disk; level = Level5; requests = (λ b. b.disk.registers.request) }
row Receiver = record { vector = vectors.Receiver; level = Level4; requests = (λ b. b.line.receiver.request) }
row Transmitter = record { vector = vectors.Transmitter; level = Level4; requests = (λ b. b.line.transmitter.request) }

-- whether a source requests at a level above a priority
abbrev pub stands : Source → Priority → BusState → Bool
stands source priority b =
    (row source).requests b && nat_lt (priority_number priority) (priority_number (row source).level)

-- the source of the highest request above a priority; of two at one level the receiver comes first
unfoldable pub highest_request : Priority → BusState → Option Source
highest_request priority b = find (λ source. stands source priority b) (Clock ∷ Disk ∷ Receiver ∷ Transmitter ∷ [])

-- the bus once the request of a source is dropped
unfoldable pub bus_after_service : Source → BusState → BusState
bus_after_service Clock b = record b { clock = clock_after_service b.clock }
bus_after_service Disk b = record b { disk = disk_after_service b.disk }
bus_after_service Receiver b = record b { line = line_after_service sections.Receiver b.line }
bus_after_service Transmitter b = record b { line = line_after_service sections.Transmitter b.line }

abbrev pub granted : Option Source → BusState → BusState × Option Vector
granted (Some source) b = (bus_after_service source b, Some (row source).vector)
granted None b = (b, None)

-- the highest request above a priority is granted, which drops it: the vector through which it interrupts
unfoldable pub grant_of : Priority → BusState → BusState × Option Vector
grant_of priority b = granted (highest_request priority b) b
