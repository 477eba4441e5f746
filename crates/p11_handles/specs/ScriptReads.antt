-- The reads of a script in memory.
use Rattle.std.specs.Prelude.{◌≡◌, ℕ, ◌+◌, min, List, [], ◌∷◌, Some, ⊤, sum_by, unwrap_or}
use Rattle.std.specs.Coded.{×_prop, Unit-prop, Coded-set, coded_option, coded_ℕ}
use Rattle.p11_panel.specs.declared.read_call.ReadCall.{ReadCall}

-- how many bytes a read gave
abbrev pub given_by : ReadCall → ℕ
given_by read = unwrap_or read.gave 0

-- Each read gave as many bytes as it had room for and were left: it gave those, and then come later ones and what is left now.
abbrev pub Filled : List ReadCall → ℕ → Type 0
Filled [] left = ⊤
Filled (read ∷ reads) left =
    (read.gave ≡ Some (min read.room (given_by read + (sum_by given_by reads + left)))) × Filled reads left

pub Filled-prop : (reads : List ReadCall) (left : ℕ) → IsProp (Filled reads left)
Filled-prop [] left = Unit-prop
Filled-prop (read ∷ reads) left =
    ×_prop (Coded-set (coded_option coded_ℕ) read.gave (Some (min read.room (given_by read + (sum_by given_by reads + left)))))
    (Filled-prop reads left)
