use Rattle.laws_references.proofs.Runs.{start_stands}
use Rattle.laws_references.proofs.runs_start_with_all_that_is_referred_to.Goals as goal

pub returns : goal.returns
returns c = start_stands
