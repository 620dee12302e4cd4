use Rattle.std.proofs.Common.{◌≡◌}
use Rattle.summary.specs.Graph.{with_after}
use Rattle.summary.proofs.system.System.successors.Given as goal

abbrev pub invariant-loop-label : goal.invariant-loop-label
invariant-loop-label g l = l.pairs.items ≡ with_after (g.Self.System.graph l.self) l.state l.yielded
