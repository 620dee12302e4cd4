use Rattle.std.proofs.Common.{◌≡◌, List, map}
use Rattle.std.specs.Prelude.{Ok}
use Rattle.summary.specs.Sums.{join_all}
use Rattle.search_layer.proofs.showing.join_parts.Given as goal

abbrev pub invariant-loop-part : goal.invariant-loop-part
invariant-loop-part g l = (shown : List _) × (l.yielded ≡ map Ok shown) × (l.summary ≡ join_all g.U.Summary.joins shown)
