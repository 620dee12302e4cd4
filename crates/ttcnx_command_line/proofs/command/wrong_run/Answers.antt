use Rattle.std.proofs.Common.{rules, ◌≡◌, Some, codes, option_map}
use Rattle.clap.specs.Words.{found_of, rows_of, subcommand_rows_of}
use Rattle.ttcnx_command_line.proofs.Lines.{run-gives}
use Rattle.ttcnx_command_line.proofs.command.wrong_run.Goals as goal

pub wrong_run_of-requires : goal.wrong_run_of-requires
wrong_run_of-requires c =
    let given = subcommand_rows_of c.args.matches.now in
    let named : option_map (λ p. p.0) given ≡ Some (codes "run") = search rules in
    run-gives given (rows_of (found_of c.in-Some.given.now)) c.requires named c.in-Some.ensures.rows
