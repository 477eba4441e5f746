-- A step has one outcome, but for what is said.
use Rattle.std.specs.Prelude.{◌≡◌, ◌≢◌, ℕ, ⊤}
use Rattle.p11_panel.specs.Laws.Outcomes.{HadMemory}
use Rattle.p11_console.specs.State.{ConsoleState}
use Rattle.p11_console.specs.Steps.{Moves}
use Rattle.p11_dialogue.specs.declared.activity.Activity.{Activity}
use Rattle.p11_dialogue.specs.declared.activity.Activity.TheVariants.{Naming, Sliced, Telling}

-- memory neither refused what is told next nor stopped its run
abbrev pub HadMemoryActivity : {A : Type 0} → Activity A → Type 0
HadMemoryActivity (Telling answer text note) = HadMemory answer
HadMemoryActivity (Sliced run answer) = HadMemory answer
HadMemoryActivity _ = ⊤

-- Two steps from one state, where memory refused nothing, come to one state but for what was said on the screen: to the same
-- machine, record, keys that wait, and what is under way. Only a word that is completed depends on the words that it is
-- completed by.
abbrev pub StepsHaveOneOutcome : Type 0 → Type 0
StepsHaveOneOutcome A =
    (turns : ℕ) (c c' d' : ConsoleState A) → c.activity ≢ Naming → Moves turns c.activity c c' → Moves turns c.activity c d'
    → HadMemoryActivity c'.activity → HadMemoryActivity d'.activity → c' ≡ record d' { screen = c'.screen }
