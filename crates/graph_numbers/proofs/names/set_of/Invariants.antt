use Rattle.std.proofs.Common.{ℕ, ◌<◌, get_or, [], map}
use Rattle.std.specs.List.{Contains}
use Rattle.graph_numbers.proofs.names.set_of.Given as goal

abbrev pub invariant-loop-name : goal.invariant-loop-name
invariant-loop-name l = (k : ℕ) → k < l.name-index → Contains l.set.keys (get_or (map (λ n. n.now) l.names) k [])
