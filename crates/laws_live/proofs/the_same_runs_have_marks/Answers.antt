use Rattle.laws_live.proofs.SameRuns.{same-marked}
use Rattle.laws_live.proofs.the_same_runs_have_marks.Goals as goal

pub returns : goal.returns
returns c = same-marked
