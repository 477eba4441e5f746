-- When a line of the script takes memory.
use Rattle.std.specs.Prelude.{Bool, true, false}
use Rattle.p11_lines.specs.declared.line.Line.{Line}
use Rattle.p11_lines.specs.declared.line.Line.TheVariants.{Mount, Save, Load, Deposit, Key}

-- the line holds a list or a name, for which memory is taken
abbrev pub holds_list : {A : Type 0} → Line A → Bool
holds_list (Mount drive name protect) = true
holds_list (Save drive name) = true
holds_list (Load name) = true
holds_list (Deposit address words) = true
holds_list (Key text) = true
holds_list _ = false
