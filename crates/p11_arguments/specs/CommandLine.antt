-- What a command line asks for: `p11 [--memory K] [--lines N] [--files FOLDER] [--no-save] SCRIPT`. What its words stand for is
-- said by the definitions of the crate that reads command lines.
use Rattle.std.specs.Prelude.{◌≡◌, ℕ, Bool, true, false, List, [], Option, Some, option_map, unwrap_or, codes}
use Rattle.std.specs.Option.{option_map_or}
use Rattle.std.specs.Str.{bytes_eq}
use Rattle.std.specs.Str.Parse.{digits_value, without_leading_plus}
use Rattle.clap.specs.Simple.{matches_of, on_top}
use Rattle.clap.specs.Words.{App, Row, Rule, Text, first_of, new_app, new_rule, with_rule}
use Rattle.clap.specs.declared.builder.action.ArgAction.TheVariants.{SetTrue}
use Rattle.clap.specs.declared.builder.value_parser.ValueParser.TheVariants.{Unsigned}
use Rattle.p11_arguments.specs.declared.arguments.Asked.{Asked}

-- an option of this name with a number that a 32-bit word holds
abbrev pub number_option : Text → Rule
number_option name =
    record (new_rule name) { long = Some name; value_names = 1; parser = Some (Unsigned 0 4294967295) }

-- an option of this name with a text
abbrev pub text_option : Text → Rule
text_option name = record (new_rule name) { long = Some name; value_names = 1 }

-- an option of this name that stands alone
abbrev pub flag_option : Text → Rule
flag_option name = record (new_rule name) { long = Some name; action = Some SetTrue }

-- a name that has to stand there
abbrev pub required_name : Text → Rule
required_name name = record (new_rule name) { required = true }

-- a program of this name that can say its version
abbrev pub named_program : Text → App
named_program name = on_top (λ shape. record shape { has_version = true }) (new_app name)

-- the program's command line
abbrev pub command_line : App
command_line =
    with_rule (with_rule (with_rule (with_rule (with_rule (named_program (codes "p11"))
    (number_option (codes "memory"))) (number_option (codes "lines"))) (text_option (codes "files")))
    (flag_option (codes "no-save"))) (required_name (codes "SCRIPT"))

-- what stands for each argument in these words, of which the first is the program's name
unfoldable pub rows_in : List Text → List Row
rows_in words = matches_of command_line words

-- the number that a text says, if there is one: decimal, and a plus may stand before it
abbrev pub number_of : Option Text → Option ℕ
number_of text = option_map (λ digits. digits_value 10 (without_leading_plus digits)) text

-- the number that is given for an option
abbrev pub number_in : Text → List Row → Option ℕ
number_in name rows = number_of (first_of name rows)

-- the folder that is given
abbrev pub files_in : List Row → Option Text
files_in rows = first_of (codes "files") rows

-- an option that stands alone has a text: whether it is given
abbrev pub is_given : Option Text → Bool
is_given text = option_map_or (λ t. bytes_eq t (codes "true")) text false

-- a save writes nothing
abbrev pub is_saveless_in : List Row → Bool
is_saveless_in rows = is_given (first_of (codes "no-save") rows)

-- the script that is named
abbrev pub script_in : List Row → Text
script_in rows = unwrap_or (first_of (codes "SCRIPT") rows) []

-- the numbers and the names that the words give, and whether a save writes nothing
abbrev pub Asks : List Row → Asked → Type 0
Asks rows asked =
    (asked.memory ≡ number_in (codes "memory") rows) × (asked.lines ≡ number_in (codes "lines") rows)
    × (option_map (λ t. t.now) asked.files ≡ files_in rows) × (asked.is_saveless ≡ is_saveless_in rows)
    × (asked.script.now ≡ script_in rows)
