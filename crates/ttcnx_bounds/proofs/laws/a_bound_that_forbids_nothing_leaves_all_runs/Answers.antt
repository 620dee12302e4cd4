use Rattle.ttcnx_bounds.proofs.Unbounded.{same-found, same-runs}
use Rattle.ttcnx_bounds.proofs.laws.a_bound_that_forbids_nothing_leaves_all_runs.Goals as goal

pub returns-clause-runs : goal.returns-clause-runs
returns-clause-runs c = same-runs

pub returns-clause-found : goal.returns-clause-found
returns-clause-found c = same-found
