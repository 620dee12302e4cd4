use Rattle.laws_live.proofs.SameRuns.{same-complete, same-counts, same-reached}
use Rattle.laws_live.proofs.live_parts_are_counted.Goals as goal

pub returns-clause-reached : goal.returns-clause-reached
returns-clause-reached c = same-reached

pub returns-clause-counts : goal.returns-clause-counts
returns-clause-counts c = same-counts

pub returns-clause-complete : goal.returns-clause-complete
returns-clause-complete c = same-complete
