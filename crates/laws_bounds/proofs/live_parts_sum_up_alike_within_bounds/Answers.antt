use Rattle.laws_bounds.proofs.BoundedTests.{sums-bounded}
use Rattle.laws_bounds.proofs.live_parts_sum_up_alike_within_bounds.Goals as goal

pub returns : goal.returns
returns g c = λ test bound j reading sees n. sums-bounded test bound j reading sees n
