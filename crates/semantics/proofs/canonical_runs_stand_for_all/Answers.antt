use Rattle.semantics.proofs.CanonicalRuns.{all_runs_alike, best_alike, ends_live}
use Rattle.semantics.proofs.canonical_runs_stand_for_all.Goals as goal

-- src/lib.rt:87:1
pub returns-clause-ends : goal.returns-clause-ends
returns-clause-ends c = ends_live

-- src/lib.rt:87:1
pub returns-clause-runs : goal.returns-clause-runs
returns-clause-runs c = all_runs_alike

-- src/lib.rt:87:1
pub returns-clause-best : goal.returns-clause-best
returns-clause-best c = best_alike
