-- How the end of a run is told.
use Rattle.std.specs.Prelude.{ℕ, List, ◌++◌, codes}
use Rattle.std.specs.Fmt.{decimal}
use Rattle.p11_lines.specs.AnswerText.{six_octals, reason_text}
use Rattle.p11_dialogue.specs.declared.stop.StopCause.{StopCause}
use Rattle.p11_dialogue.specs.declared.stop.StopCause.TheVariants.{Reason, Key, End}
use Rattle.p11_dialogue.specs.declared.stop.Stop.{Stop}

abbrev pub cause_text : StopCause → List ℕ
cause_text (Reason reason) = reason_text reason
cause_text Key = codes "key"
cause_text End = codes "end"

-- `STOP r d o`, as an answer has it: why, after how many turns, and where the program counter is
unfoldable pub stop_text : Stop → List ℕ
stop_text stop =
    codes "STOP " ++ cause_text stop.cause ++ codes " " ++ decimal stop.total ++ codes " " ++ six_octals stop.pc ++ codes "\n"
