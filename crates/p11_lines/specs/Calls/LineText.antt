-- The text of a line: one space between words, numbers without leading zeros, and bytes escaped where they have to be.
use Rattle.std.specs.Prelude.{ℕ, ◌≡◌, ◌<◌, ◌≤◌, true, false, List, [], ◌∷◌, ◌++◌, length, map, All, Some, codes}
use Rattle.std.specs.Fmt.{digits, decimal}
use Rattle.p11_lines.specs.declared.line.Line.{Line}
use Rattle.p11_lines.specs.declared.line.Line.TheVariants.{Mount, Unmount, Save, Changed, Load, Examine, Deposit, Start, Key}
use Rattle.p11_lines.specs.declared.line.Line.TheVariants.{Tick, Clock, Switches, Set, Step, Continue, Regs, Device, Flush}
use Rattle.p11_lines.specs.Escapes.{escaped}
use Rattle.p11_lines.specs.Grammar.{is_name, access_text, line_from}

-- a number in octal
abbrev pub octal : ℕ → List ℕ
octal number = digits 8 false number

-- the words of a line, the command's name first
abbrev pub line_words : {A : Type 0} → Line A → List (List ℕ)
line_words (Mount drive name protect) = codes "mount" ∷ octal drive ∷ name ∷ access_text protect ∷ []
line_words (Unmount drive) = codes "unmount" ∷ octal drive ∷ []
line_words (Save drive name) = codes "save" ∷ octal drive ∷ name ∷ []
line_words (Changed drive) = codes "changed" ∷ octal drive ∷ []
line_words (Load name) = codes "load" ∷ name ∷ []
line_words (Examine address count) = codes "examine" ∷ octal address ∷ decimal count ∷ []
line_words (Deposit address words) = codes "deposit" ∷ octal address ∷ map octal words
line_words (Start address) = codes "start" ∷ octal address ∷ []
line_words (Key text) = codes "key" ∷ escaped text ∷ []
line_words Tick = codes "tick" ∷ []
line_words (Clock period) = codes "clock" ∷ decimal period ∷ []
line_words (Switches word) = codes "switches" ∷ octal word ∷ []
line_words (Set register value) = codes "set" ∷ octal register ∷ octal value ∷ []
line_words (Step turns) = codes "step" ∷ decimal turns ∷ []
line_words (Continue turns) = codes "continue" ∷ decimal turns ∷ []
line_words Regs = codes "regs" ∷ []
line_words Device = codes "device" ∷ []
line_words Flush = codes "flush" ∷ []

-- words, and a space between each two
abbrev pub with_spaces : List (List ℕ) → List ℕ
with_spaces [] = []
with_spaces (word ∷ []) = word
with_spaces (word ∷ next ∷ rest) = word ++ 32 ∷ with_spaces (next ∷ rest)

unfoldable pub line_text : {A : Type 0} → Line A → List ℕ
line_text line = with_spaces (line_words line)

-- a count that a line can show
abbrev pub FitsCount : ℕ → Type 0
FitsCount count = (0 < count) × (count ≤ 999999999)

-- the parts of the line are numbers and names that a line can show
unfoldable pub FitsGrammar : {A : Type 0} → Line A → Type 0
FitsGrammar (Mount drive name protect) = (drive ≤ 0o177777) × (is_name name ≡ true)
FitsGrammar (Unmount drive) = drive ≤ 0o177777
FitsGrammar (Save drive name) = (drive ≤ 0o177777) × (is_name name ≡ true)
FitsGrammar (Changed drive) = drive ≤ 0o177777
FitsGrammar (Load name) = is_name name ≡ true
FitsGrammar (Examine address count) = (address ≤ 0o777777) × FitsCount count
FitsGrammar (Deposit address words) = (address ≤ 0o777777) × (0 < length words) × All (λ word. word ≤ 0o177777) words
FitsGrammar (Start address) = address ≤ 0o177777
FitsGrammar (Key text) = (0 < length text) × All (λ byte. byte ≤ 255) text
FitsGrammar (Clock period) = period ≤ 999999999
FitsGrammar (Switches word) = word ≤ 0o177777
FitsGrammar (Set register value) = (register ≤ 0o177777) × (value ≤ 0o177777)
FitsGrammar (Step turns) = FitsCount turns
FitsGrammar (Continue turns) = FitsCount turns
FitsGrammar _ = Unit {0}

-- the text of the line reads as the line
abbrev pub ReadsBack : {A : Type 0} → Line A → Type 0
ReadsBack line = FitsGrammar line → length (line_text line) ≤ 4096 → line_from (line_text line) ≡ Some line
