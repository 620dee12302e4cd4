use Rattle.laws_bounds.proofs.BoundedTests.{best-bounded, complete-bounded, counts-bounded, marked-bounded}
use Rattle.laws_bounds.proofs.live_parts_are_counted_within_bounds.Goals as goal

pub returns-clause-counts : goal.returns-clause-counts
returns-clause-counts c = counts-bounded

pub returns-clause-complete : goal.returns-clause-complete
returns-clause-complete c = complete-bounded

pub returns-clause-marks : goal.returns-clause-marks
returns-clause-marks c = marked-bounded

pub returns-clause-best : goal.returns-clause-best
returns-clause-best c = best-bounded
