use Rattle.std.proofs.Common.{◌≡◌, ◌∙◌, ℕ, ap, refl, map, codes, List, [], Option, Some, None, option_map, Bor}
use Rattle.std.specs.Prelude.{unwrap_or}
use Rattle.std.specs.String.{string_bytes}
use Rattle.clap.specs.Words.{Text, first_of, first_value, found_of}
use Rattle.clap.proofs.WalkLemmas.{first_value-rows}
use Rattle.p11_arguments.specs.CommandLine.{number_of, is_given, rows_in}
use Rattle.p11_arguments.proofs.arguments.read_command_line.Goals as goal

text_or : (text : Option (Bor (List ℕ))) (other : Bor (List ℕ)) → (unwrap_or text other).now ≡ unwrap_or (option_map (λ t. t.now) text) other.now
text_or None other = refl
text_or (Some text) other = refl

pub returns : goal.returns
returns c =
    let rows : (name : Text) → first_value (found_of c.in-Ok.matches) name ≡ first_of name (rows_in (map string_bytes c.args.words.now)) =
    λ name. first_value-rows (found_of c.in-Ok.matches) name ∙ ap (first_of name) c.in-Ok.ensures in (
      c.in_ok-memory.ensures ∙ ap number_of (c.get_str.ensures ∙ rows (codes "memory")),
      c.in_ok-lines.ensures ∙ ap number_of (c.get_str-2.ensures ∙ rows (codes "lines")),
      c.get_str-files.ensures ∙ rows (codes "files"),
      c.is_given-is_saveless.ensures ∙ ap is_given (c.get_str-3.ensures ∙ rows (codes "no-save")),
      ap (λ (t : Bor (List ℕ)). t.now) c.unwrap_or-script.ensures ∙ (text_or c.get_str-4.result _ ∙ ap (λ t. unwrap_or t []) (c.get_str-4.ensures ∙ rows (codes "SCRIPT"))),
    )
