-- How a dialogue is held, and so how a line is tried.
use Rattle.std.specs.Prelude.{Bool, true, false}
use Rattle.p11_dialogue.specs.declared.settings.Manner.{Manner}
use Rattle.p11_dialogue.specs.declared.settings.Manner.TheVariants.{Typed, Batch}
use Rattle.p11_dialogue.specs.declared.settings.Settings.{Settings}
use Rattle.p11_dialogue.specs.declared.settings.Trying.{Trying}

abbrev pub is_person : Manner → Bool
is_person Typed = true
is_person _ = false

abbrev pub is_batch : Manner → Bool
is_batch Batch = true
is_batch _ = false

-- a person is asked before a file is written over
unfoldable pub tried_by : Settings → Trying
tried_by settings =
    record {
      is_whole = is_batch settings.manner;
      is_saveless = settings.is_saveless;
      is_asking = is_person settings.manner;
    }
