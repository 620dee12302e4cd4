use Rattle.std.proofs.Common.{rules}
use Rattle.std.proofs.Output.{has_written_append}
use Rattle.report.proofs.text.ReportDisplay.fmt.Goals as goal

pub returns-clause-writes : goal.returns-clause-writes
returns-clause-writes g c = λ plain ok.
    let header = c.write_header.ensures plain (search rules) in
    let outcomes = c.write_outcomes.ensures header.plain (search rules) in
    let branches = c.write_branches.ensures outcomes.plain (search rules) in
    let blocked = c.write_blocked.ensures branches.plain ok in
    has_written_append _ _ _ _ _ _ (has_written_append _ _ _ _ _ _ (has_written_append _ _ _ _ _ _ header outcomes) branches) blocked
