use Rattle.laws_types.proofs.Running.{ends-fit}
use Rattle.laws_types.proofs.runs_keep_types.Goals as goal

pub returns-clause-ends : goal.returns-clause-ends
returns-clause-ends c = ends-fit
