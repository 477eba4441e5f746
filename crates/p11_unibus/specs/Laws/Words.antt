-- Laws of the bus: what is true in each of its states.
use Rattle.std.specs.Prelude.{ℕ, ◌≡◌, ◌≢◌, ◌≤◌, true, Some, IsSomeAnd}
use Rattle.p11_psw.specs.Fields.{priority_number}
use Rattle.p11_psw.specs.declared.priority.Priority.{Priority}
use Rattle.p11_memory.specs.Memory.{has_word}
use Rattle.p11_unibus.specs.State.{BusState}
use Rattle.p11_unibus.specs.Bus.{see, change}
use Rattle.p11_unibus.specs.declared.source.Source.{Source}
use Rattle.p11_unibus.specs.Requests.{highest_request, row, stands}

-- a word written at an address of memory is the word that then shows there
abbrev pub ShowsThere : ℕ → ℕ → ℕ → Type 0
ShowsThere turn pa word =
    (b : BusState) → has_word b.memory pa ≡ true → see turn pa (change turn pa word b) ≡ Some word

-- and every other address shows what it did
abbrev pub StaysElsewhere : ℕ → ℕ → ℕ → Type 0
StaysElsewhere turn pa word =
    (b : BusState) → has_word b.memory pa ≡ true →
    (other : ℕ) → other ≢ pa → see turn other (change turn pa word b) ≡ see turn other b

-- where a source requests above a priority, the highest request is of its level at least
abbrev pub GrantsNoneLower : Source → Priority → Type 0
GrantsNoneLower source priority =
    (b : BusState) → stands source priority b ≡ true →
    IsSomeAnd (highest_request priority b)
    (λ found. priority_number (row source).level ≤ priority_number (row found).level)
