-- The words that are the console's own, and not of its language.
use Rattle.std.specs.Prelude.{ℕ, Bool, not, ◌&&◌, ◌||◌, nat_eq, nat_le, List, length, if◌then◌else◌, codes}
use Rattle.std.specs.Str.{bytes_eq}
use Rattle.p11_phrases.specs.Words.{trimmed, first_word, behind_word}
use Rattle.p11_dialogue.specs.declared.line_kind.LineKind.{LineKind}
use Rattle.p11_dialogue.specs.declared.line_kind.LineKind.TheVariants.{Talk, Once, Quit, Help, Do, Language}

abbrev pub verb_of : List ℕ → List ℕ
verb_of line = first_word (trimmed line)

abbrev pub rest_of : List ℕ → List ℕ
rest_of line = trimmed (behind_word (trimmed line))

abbrev pub is_alone : List ℕ → Bool
is_alone rest = nat_eq (length rest) 0

-- a name
abbrev pub is_one_word : List ℕ → Bool
is_one_word text =
    not (nat_eq (length (first_word text)) 0) && (nat_le (length (first_word text)) 255 && is_alone (trimmed (behind_word text)))

abbrev pub or_language : LineKind → Bool → LineKind
or_language kind is_so = if is_so then kind else Language

unfoldable pub kind_of_line : List ℕ → LineKind
kind_of_line line =
    if bytes_eq (verb_of line) (codes "talk") || bytes_eq (verb_of line) (codes "continue") then or_language Talk (is_alone (rest_of line)) else (
    if bytes_eq (verb_of line) (codes "step") then or_language Once (is_alone (rest_of line)) else (
    if bytes_eq (verb_of line) (codes "quit") then or_language Quit (is_alone (rest_of line)) else (
    if bytes_eq (verb_of line) (codes "help") then Help else (
    if bytes_eq (verb_of line) (codes "do") then or_language Do (is_one_word (rest_of line)) else
    Language))))

-- the name behind `do`
abbrev pub script_name : List ℕ → List ℕ
script_name line = first_word (rest_of line)
