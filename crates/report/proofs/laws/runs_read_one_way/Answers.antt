use Rattle.report.proofs.Lines.{first-bad-same, run-has-no-bad, run-same}
use Rattle.report.proofs.laws.runs_read_one_way.Goals as goal

pub returns-clause-same : goal.returns-clause-same
returns-clause-same c = run-same

pub returns-clause-apart : goal.returns-clause-apart
returns-clause-apart c = run-has-no-bad

pub returns-clause-first : goal.returns-clause-first
returns-clause-first c = first-bad-same
