use Rattle.laws_bounds.proofs.Counted.{same-complete, same-counts}
use Rattle.laws_bounds.proofs.what_is_kept_is_counted.Goals as goal

pub returns-clause-counts : goal.returns-clause-counts
returns-clause-counts g c = same-counts

pub returns-clause-complete : goal.returns-clause-complete
returns-clause-complete g c = same-complete
