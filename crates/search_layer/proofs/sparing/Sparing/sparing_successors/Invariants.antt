use Rattle.std.proofs.Common.{◌≡◌, map, Some}
use Rattle.search_layer.proofs.sparing.Sparing.sparing_successors.Given as goal

abbrev pub invariant-loop-label : goal.invariant-loop-label
invariant-loop-label g l = l.found.items ≡ map (λ p. (p.0, Some p.1)) l.yielded
