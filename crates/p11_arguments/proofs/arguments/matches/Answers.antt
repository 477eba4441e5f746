use Rattle.std.proofs.Common.{◌≡◌, ◌∙◌, ap, map, refl, true, List}
use Rattle.std.proofs.lemmas.Result.{IfOk-weaker}
use Rattle.std.specs.String.{string_bytes}
use Rattle.clap.specs.Words.{App, Row, Text, HasMatchesOf, found_of, is_simple, rows_of}
use Rattle.clap.specs.Simple.{matches_of}
use Rattle.clap.specs.declared.parser.matches.ArgMatches.{ArgMatches}
use Rattle.p11_arguments.specs.CommandLine.{command_line, rows_in}
use Rattle.p11_arguments.proofs.arguments.matches.Goals as goal

simple_line : is_simple command_line ≡ true
simple_line = refl

line_rows : (words : List Text) → matches_of command_line words ≡ rows_in words
unfolding rows_in
line_rows words = refl

-- over any command line, so that none is computed here
rows_by : (a b : App) (words : List Text) (rows : List Row) (m : ArgMatches) → a ≡ b → is_simple b ≡ true → matches_of b words ≡ rows → HasMatchesOf a words m → rows_of (found_of m) ≡ rows
rows_by a b words rows m same simple are has =
    (has (ap is_simple same ∙ simple)).0 ∙ (ap (λ (x : App). matches_of x words) same ∙ are)

pub returns : goal.returns
returns c =
    let same = c.in_ok-command.ensures in
    let words = map string_bytes c.args.words.now in
    IfOk-weaker c.try_get_matches_from.result _ _
    (λ found has. rows_by _ command_line words (rows_in words) found same simple_line (line_rows words) has)
    c.try_get_matches_from.ensures.matches
