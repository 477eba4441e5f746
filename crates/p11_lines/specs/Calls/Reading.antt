-- What a reader of parts of a line gives.
use Rattle.std.specs.Prelude.{◌≡◌, IsTrue, Option, Some, None, Result, Ok, Err, ℕ, List}
use Rattle.std.specs.declared.vec.Vec.{Vec}
use Rattle.p11_lines.specs.Reading.{holds_list}
use Rattle.p11_lines.specs.declared.fault.Fault.{Fault}
use Rattle.p11_lines.specs.declared.fault.Fault.TheVariants.{NoMemory, BadLine}
use Rattle.p11_lines.specs.declared.line.Line.{Line}

-- the line that was meant; BadLine exactly where none was; NoMemory only for a line that holds a list or a name
abbrev pub Reads : {A : Type 0} → Result (Line A) Fault → Option (Line A) → Type 0
Reads (Ok line) meant = meant ≡ Some line
Reads (Err BadLine) meant = meant ≡ None
Reads (Err NoMemory) None = ⊥
Reads (Err NoMemory) (Some line) = IsTrue (holds_list line)
Reads (Err _) meant = ⊥

-- the list that was meant, or BadLine where there was none; NoMemory says nothing
abbrev pub GivesList : {A : Type 0} → Result (Vec ℕ A) Fault → Option (List ℕ) → Type 0
GivesList (Ok vec) meant = meant ≡ Some vec.items
GivesList (Err BadLine) meant = meant ≡ None
GivesList (Err NoMemory) meant = Unit {0}
GivesList (Err _) meant = ⊥
