use Rattle.std.proofs.Common.{rules, ◌≡◌, List, Some}
use Rattle.std.specs.Borrow.{Bor}
use Rattle.clap.specs.Walk.{Text, texts}
use Rattle.clap.specs.Words.{rule_of}
use Rattle.clap.specs.declared.builder.value_parser.ValueParser.TheVariants.{Names}
use Rattle.ttcnx_command_line.specs.App.{format_option, lint_words}
use Rattle.ttcnx_command_line.proofs.definition.lint_format.Goals as goal

pub returns-clause-rule : goal.returns-clause-rule
returns-clause-rule c =
    let names : Bor (List (Bor Text)) = c.as_slice.result in
    let same : texts names.now ≡ lint_words = search rules in
    let parser : c.value_parser.result.value_parser ≡ Some (Names names) = search rules in
    let rule : rule_of c.help.result ≡ format_option names = search rules in
    (names, same, rule)
