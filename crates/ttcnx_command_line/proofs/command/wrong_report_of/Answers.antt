use Rattle.clap.specs.Words.{found_of, rows_of}
use Rattle.ttcnx_command_line.specs.internal.Given.{aim_of, explain_of}
use Rattle.ttcnx_command_line.proofs.Lines.{first-refused}
use Rattle.ttcnx_command_line.proofs.command.wrong_report_of.Goals as goal

pub returns-in-Some : goal.returns-in-Some
returns-in-Some c =
    let rows = rows_of (found_of c.args.given.now) in
    first-refused (aim_of rows) (explain_of rows) c.in-Some.ensures
