use Rattle.std.proofs.Common.{rules, ◌≡◌, ◌∙◌, Some, ap, codes, option_map, refl, sym}
use Rattle.std.proofs.lemmas.Result.{IfOk-weaker}
use Rattle.clap.specs.Words.{found_of, rows_of, subcommand_rows_of}
use Rattle.ttcnx_command_line.proofs.Lines.{run-fault, run-gives, subcommand-named, values-there}
use Rattle.ttcnx_command_line.proofs.Walks.{none-of}
use Rattle.ttcnx_command_line.proofs.command.line_of.Goals as goal

pub run_of-requires : goal.run_of-requires
run_of-requires c =
    let given = subcommand_rows_of c.args.matches.now in
    let rows = rows_of (found_of c.in-Some-subcommand_matches-2.given.now) in
    let named : option_map (λ p. p.0) given ≡ Some (codes "run") = search rules in
    let is = c.in-Some-subcommand_matches-2.ensures.rows in
    record { gives = run-gives given rows c.requires.command named is; bound = (none-of _ _ (sym (run-fault given rows named is) ∙ c.requires.bound)).0 }

pub returns-in-Some-subcommand_matches-2-clause-subcommand : goal.returns-in-Some-subcommand_matches-2-clause-subcommand
returns-in-Some-subcommand_matches-2-clause-subcommand c =
    let named = subcommand-named c.args.matches.now (codes "run") (c.in-Some-subcommand_matches-2.ensures.found.0 refl) in
    IfOk-weaker c.run_of.result _ _ (λ line same. named ∙ ap Some (sym same)) c.run_of.ensures.subcommand

pub returns-in-Some-subcommand_matches-2-clause-values : goal.returns-in-Some-subcommand_matches-2-clause-values
returns-in-Some-subcommand_matches-2-clause-values c =
    IfOk-weaker c.run_of.result _ _ (λ line values. values-there (subcommand_rows_of c.args.matches.now) _ line c.in-Some-subcommand_matches-2.ensures.rows values) c.run_of.ensures.values
