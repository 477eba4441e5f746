use Rattle.std.proofs.Common.{rules, ◌≡◌, ◌∙◌, ap, Option, Some}
use Rattle.clap.specs.Words.{Rule, rule_of}
use Rattle.clap.specs.declared.builder.value_parser.ValueParser.{ValueParser}
use Rattle.clap.specs.declared.builder.value_parser.ValueParser.TheVariants.{Unsigned}
use Rattle.p11_arguments.specs.CommandLine.{number_option}
use Rattle.p11_arguments.proofs.arguments.option.Goals as goal

pub returns : goal.returns
returns c =
    let given = c.value_parser.ensures.given in
    let parser_is : c.value_parser.result.value_parser ≡ Some (Unsigned 0 4294967295) = given.1 ∙ ap (λ p. Some p) (given.2 ∙ c.number.ensures) in
    let before : rule_of c.value_name.result ≡ record (number_option c.args.name.now) { parser = c.value_name.result.value_parser } = search rules in
    let after : rule_of c.help.result ≡ record (rule_of c.value_name.result) { parser = c.value_parser.result.value_parser } =
    ap rule_of c.help.ensures ∙ ap rule_of c.value_parser.ensures.others in (
      after ∙ (ap (λ (q : Option ValueParser). record (rule_of c.value_name.result) { parser = q }) parser_is
          ∙ ap (λ (r : Rule). record r { parser = Some (Unsigned 0 4294967295) }) before),
      search rules,
    )
