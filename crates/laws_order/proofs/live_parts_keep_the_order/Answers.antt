use Rattle.laws_order.proofs.Runs.{canonical-ends-ordered}
use Rattle.laws_order.proofs.live_parts_keep_the_order.Goals as goal

pub returns-clause-ends : goal.returns-clause-ends
returns-clause-ends c = canonical-ends-ordered
