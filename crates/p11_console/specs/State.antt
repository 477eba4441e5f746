-- What contracts see of a console.
use Rattle.std.specs.Prelude.{ℕ, Bool, false, List, [], ◌∷◌, replicate, slice_set, Option, Some, None}
use Rattle.p11_cpu.specs.State.{State}
use Rattle.p11_phrases.specs.declared.place.ExaminedPlace.{ExaminedPlace}
use Rattle.p11_phrases.specs.declared.place.ExaminedPlace.TheVariants.{Nowhere}
use Rattle.p11_dialogue.specs.Typing.{fresh}
use Rattle.p11_dialogue.specs.declared.settings.Settings.{Settings}
use Rattle.p11_dialogue.specs.declared.typist.Typist.{Typist}
use Rattle.p11_dialogue.specs.declared.activity.Activity.{Activity}
use Rattle.p11_dialogue.specs.declared.activity.Activity.TheVariants.{Free}

pub record ConsoleState (A : Type 0) : Type 0 where
  pub machine : State
  -- how the dialogue is held, and whether a talk comes next
  pub settings : Settings
  pub is_to_talk : Bool
  -- the keys that wait, and whether they are the last
  pub waiting : List ℕ
  pub is_over : Bool
  -- the ticks of the line clock that wait
  pub ticks : ℕ
  -- the line that is typed, and what an empty one shows
  pub typist : Typist A
  pub place : ExaminedPlace
  -- the line that was done last is `step` alone, or an empty one behind it
  pub is_stepping : Bool
  -- the lines that the typed one means and that aren't done yet, and those of a script
  pub lines : List ℕ
  pub script : List ℕ
  -- the line that was begun last is the script's; one of its lines was refused; a script can't be had
  pub is_scripted : Bool
  pub has_refused : Bool
  pub lacks_script : Bool
  -- it was told that packs were written, and nothing was done since
  pub is_warned : Bool
  -- what each drive held when it was last saved
  pub saved : List (Option (List ℕ))
  -- the bytes for the screen, for the record and for the history's file that the host hasn't taken
  pub screen : List ℕ
  pub journal : List ℕ
  pub past : List ℕ
  -- what is under way
  pub activity : Activity A

-- nothing has come, and nothing is under way
unfoldable pub opened : {A : Type 0} → State → Settings → ConsoleState A
opened machine settings =
    record {
      machine = machine;
      settings = settings;
      is_to_talk = settings.is_talk;
      waiting = [];
      is_over = false;
      ticks = 0;
      typist = fresh;
      place = Nowhere;
      is_stepping = false;
      lines = [];
      script = [];
      is_scripted = false;
      has_refused = false;
      lacks_script = false;
      is_warned = false;
      saved = replicate 8 None;
      screen = [];
      journal = [];
      past = [];
      activity = Free;
    }
