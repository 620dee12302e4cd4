use Rattle.laws_bounds.proofs.Standing.{ends-kept, same-best, same-marked, same-runs}
use Rattle.laws_bounds.proofs.what_stands_for_a_graph_has_its_runs.Goals as goal

pub returns-clause-runs : goal.returns-clause-runs
returns-clause-runs g c = same-runs

pub returns-clause-ends : goal.returns-clause-ends
returns-clause-ends g c = ends-kept

pub returns-clause-marks : goal.returns-clause-marks
returns-clause-marks g c = same-marked

pub returns-clause-best : goal.returns-clause-best
returns-clause-best g c = same-best
