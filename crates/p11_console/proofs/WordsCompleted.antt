-- A word at the cursor is completed, and the line is shown.
use Rattle.std.proofs.Common.{◌≡◌, ℕ, List, refl}
use Rattle.p11_dialogue.specs.Said.{Says}
use Rattle.p11_console.specs.State.{ConsoleState}
use Rattle.p11_console.specs.Steps.{Completes}
use Rattle.p11_dialogue.specs.Typing.{CompletedBy}
use Rattle.p11_dialogue.specs.declared.typist.Typist.{Typist}
use Rattle.p11_dialogue.specs.declared.activity.Activity.TheVariants as activities

completed_so : {A : Type 0} (words : List (List ℕ)) (c : ConsoleState A) (t : Typist A) (screen : List ℕ) → CompletedBy words c.typist t → Says c.screen screen → Completes c (record c { typist = t; screen = screen; activity = activities.Typing })
unfolding Completes
completed_so words c t screen by says = (words, by, says, refl)

pub completes : {A : Type 0} (words : List (List ℕ)) (c c' : ConsoleState A) (t : Typist A) → CompletedBy words c.typist t → Says c.screen c'.screen → c' ≡ record c { typist = t; screen = c'.screen } → Completes c (record c' { activity = activities.Typing })
completes words c c' t by says is = rw is (completed_so words c t c'.screen by says)
