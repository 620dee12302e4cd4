use Rattle.search_bounds.proofs.BoundedRuns.{same-ends, same-runs, what-is-left}
use Rattle.search_bounds.proofs.laws.bounded_runs_keep_the_bound.Goals as goal

pub returns-clause-runs : goal.returns-clause-runs
returns-clause-runs g c = same-runs

pub returns-clause-ends : goal.returns-clause-ends
returns-clause-ends g c = same-ends

pub returns-clause-left : goal.returns-clause-left
returns-clause-left g c = what-is-left
