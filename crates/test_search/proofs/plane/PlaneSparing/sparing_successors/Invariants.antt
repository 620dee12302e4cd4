use Rattle.std.proofs.Common.{◌≡◌, map}
use Rattle.std.specs.List.{All}
use Rattle.std.specs.Ordering.{nat_cmp}
use Rattle.search_layer.specs.Late.{IsSpared}
use Rattle.test_search.specs.Plane.{plane}
use Rattle.test_search.proofs.plane.PlaneSparing.sparing_successors.Given as goal

abbrev pub invariant-loop-label : goal.invariant-loop-label
invariant-loop-label l = (map (λ p. p.0) l.found.items ≡ l.yielded) × All (IsSpared plane nat_cmp l._before l.last l.state) l.found.items
