use Rattle.laws_live.proofs.SameRuns.{same-runs}
use Rattle.laws_live.proofs.runs_over_live_parts_are_the_runs.Goals as goal

pub returns : goal.returns
returns c = same-runs
