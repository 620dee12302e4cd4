use Rattle.std.proofs.Common.{◌≡◌, map}
use Rattle.search_ordinals.proofs.Numbers.{branch-pair}
use Rattle.search_ordinals.proofs.branched.Branched.branched_successors.Given as goal

abbrev pub invariant-loop-label : goal.invariant-loop-label
invariant-loop-label g l = l.pairs.items ≡ map (branch-pair (g.Self.Located.branch l.self) (g.Self.System.graph l.self) l.state) l.yielded
