use Rattle.laws_order.proofs.Runs.{ends-ordered}
use Rattle.laws_order.proofs.runs_keep_the_order.Goals as goal

pub returns-clause-ends : goal.returns-clause-ends
returns-clause-ends c = ends-ordered
