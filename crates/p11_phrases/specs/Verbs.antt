-- The words with which a line begins, and their beginnings.
use Rattle.std.specs.Prelude.{ℕ, ◌+◌, Bool, List, [], ◌∷◌, ◌++◌, map, drop, nat_eq, Option, Some, None, is_some, if◌then◌else◌, codes}
use Rattle.std.specs.List.{position_from, starts_with}
use Rattle.std.specs.Map.{lookup}
use Rattle.std.specs.Str.{bytes_eq}
use Rattle.p11_lines.specs.Grammar.{commands}
use Rattle.p11_phrases.specs.declared.verb.Meant.{Meant}
use Rattle.p11_phrases.specs.declared.verb.Meant.TheVariants.{Word, Several, Nothing}

-- the words: the language's commands, and then the terminal's own
unfoldable pub full_words : List (List ℕ)
full_words =
    map (λ row. row.0) (commands {A = Unit {0}}) ++ codes "talk" ∷ codes "do" ∷ codes "help" ∷ codes "quit" ∷ []

-- words that stand for others: d is deposit, as on DEC's consoles, ? help and exit quit
abbrev pub other_words : List (List ℕ × ℕ)
other_words =
    (codes "d", 6) ∷ (codes "?", 20) ∷ (codes "exit", 21) ∷ []

-- the first word from a place on that begins with these bytes
abbrev pub begun_from : List ℕ → ℕ → Option ℕ
begun_from front place = position_from (λ word. starts_with nat_eq word front) place (drop place full_words)

-- one word, if none behind it begins so too
abbrev pub only_one : List ℕ → Option ℕ → Meant
only_one front None = Nothing
only_one front (Some place) = if is_some (begun_from front (place + 1)) then Several else Word place

abbrev pub or_begun : List ℕ → Option ℕ → Meant
or_begun front (Some place) = Word place
or_begun front None = only_one front (begun_from front 0)

-- the full word that is meant, by its place in the list: one that begins so, if it alone does
unfoldable pub meant : List ℕ → Meant
meant front = or_begun front (lookup (bytes_eq front) other_words)
