use Rattle.report.proofs.Lines.{fine-run-has-no-bad, fine-run-same, first-bad-fine-same}
use Rattle.report.proofs.laws.fine_runs_read_one_way.Goals as goal

pub returns-clause-same : goal.returns-clause-same
returns-clause-same c = fine-run-same

pub returns-clause-apart : goal.returns-clause-apart
returns-clause-apart c = fine-run-has-no-bad

pub returns-clause-first : goal.returns-clause-first
returns-clause-first c = first-bad-fine-same
