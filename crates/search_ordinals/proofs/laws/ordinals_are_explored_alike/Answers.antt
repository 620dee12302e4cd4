use Rattle.search_ordinals.proofs.Explored.{best-told, complete-told, counts-told, marked-told, told-counts, told-marked}
use Rattle.search_ordinals.proofs.Order.{no-later}
use Rattle.search_ordinals.proofs.Sums.{sums-told}
use Rattle.search_ordinals.proofs.laws.ordinals_are_explored_alike.Goals as goal

pub returns-clause-counts : goal.returns-clause-counts
returns-clause-counts g c branch graph n count = (counts-told branch graph n count, told-counts branch graph n count)

pub returns-clause-complete : goal.returns-clause-complete
returns-clause-complete g c = complete-told

pub returns-clause-marked : goal.returns-clause-marked
returns-clause-marked g c branch graph n mark run told is = (marked-told branch graph n mark run told is, told-marked branch graph n mark run told is)

pub returns-clause-sums : goal.returns-clause-sums
returns-clause-sums g c = sums-told

pub returns-clause-later : goal.returns-clause-later
returns-clause-later g c branch graph cmp total ascends = no-later branch graph cmp total ascends

pub returns-clause-best : goal.returns-clause-best
returns-clause-best g c branch graph cmp total ascends = best-told branch graph cmp total ascends
