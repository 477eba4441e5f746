-- What a console's handle of C's holds.
use Rattle.std.specs.Prelude.{ℕ, nat_eq, nat_lt, Option, None, Some, if◌then◌else◌}
use Rattle.std.specs.Global.{Global}
use Rattle.p11_console.specs.State.{ConsoleState}
use Rattle.p11_dialogue.specs.declared.settings.Manner.{Manner}
use Rattle.p11_dialogue.specs.declared.settings.Manner.TheVariants.{Typed, Given, Batch}
use Rattle.p11_dialogue.specs.declared.settings.Settings.{Settings}

-- a dialogue at a console
abbrev pub Dialogue : Type 0
Dialogue = ConsoleState Global

-- a console or none
abbrev pub HeldDialogue : Type 0
HeldDialogue = Option Dialogue

-- how many consoles are held
unfoldable pub consoles_of : HeldDialogue → ℕ
consoles_of None = 0
consoles_of (Some dialogue) = 1

-- where lines come from, by C's number
unfoldable pub manner_of : ℕ → Manner
manner_of manner = if nat_eq manner 0 then Typed else (if nat_eq manner 1 then Given else Batch)

-- how a dialogue is held, by C's numbers, of which those that aren't 0 say yes
unfoldable pub settings_of : ℕ → ℕ → ℕ → ℕ → Settings
settings_of manner strict saveless talk =
    record {
      manner = manner_of manner;
      is_strict = nat_lt 0 strict;
      is_saveless = nat_lt 0 saveless;
      is_talk = nat_lt 0 talk;
    }
