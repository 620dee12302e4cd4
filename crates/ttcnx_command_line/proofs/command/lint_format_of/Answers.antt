use Rattle.std.proofs.Common.{rules, ◌≡◌, refl, subst, codes}
use Rattle.clap.specs.Words.{found_of, rows_of}
use Rattle.ttcnx_command_line.specs.Command.{IsText}
use Rattle.ttcnx_command_line.proofs.Getters.{lint-format-left, lint-format-there, text-copied}
use Rattle.ttcnx_command_line.proofs.command.lint_format_of.Goals as goal

pub unwrap-requires : goal.unwrap-requires
unwrap-requires c = lint-format-there (found_of c.args.given.now) c.get_str.result c.get_str.ensures c.requires

pub returns-then-eq : goal.returns-then-eq
returns-then-eq c =
    let word = c.unwrap.result in
    let same : word.now ≡ codes "json" = search rules in
    subst (IsText (rows_of (found_of c.args.given.now)) (codes "format")) same
    (text-copied (found_of c.args.given.now) (codes "format") c.get_str.result word word.now c.get_str.ensures c.unwrap.ensures refl)

pub returns-else-eq : goal.returns-else-eq
returns-else-eq c =
    let word = c.unwrap.result in
    let json : word.now ≡ codes "json" → ⊥ = search rules in
    lint-format-left (rows_of (found_of c.args.given.now)) word.now
    (text-copied (found_of c.args.given.now) (codes "format") c.get_str.result word word.now c.get_str.ensures c.unwrap.ensures refl) c.requires json
